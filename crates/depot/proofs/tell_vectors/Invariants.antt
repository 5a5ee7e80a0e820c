use Rattle.std.proofs.Common.{length}
use Rattle.depot.proofs.tell_vectors.Given as goal

abbrev pub decreases-loop-text : goal.decreases-loop-text
decreases-loop-text l = length l.text.rest.now
