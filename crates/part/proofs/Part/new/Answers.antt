use Rattle.part.proofs.Filled.{empty_set}
use Rattle.part.proofs.Part.new.Goals as goal

pub returns-clause-set : goal.returns-clause-set
returns-clause-set g c = empty_set 4096
