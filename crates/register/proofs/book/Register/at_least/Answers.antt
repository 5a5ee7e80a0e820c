use Rattle.std.proofs.Common.{rules, refl}
use Rattle.runs.proofs.Leading.{stepped}
use Rattle.register.proofs.book.Register.at_least.Goals as goal

pub returns : goal.returns
returns g c = stepped (search rules) (search rules) refl
