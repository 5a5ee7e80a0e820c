use Rattle.std.proofs.Common.{leb}
use Rattle.refusal.proofs.Tests.{Searched}
use Rattle.vectors.proofs.entries.first_above.Given as goal

abbrev pub invariant-loop-i : goal.invariant-loop-i
invariant-loop-i l = Searched (λ x. leb x l.limit) l.entries l.i
