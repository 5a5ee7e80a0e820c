use Rattle.std.proofs.Common.{rules, refl}
use Rattle.runs.proofs.Leading.{stepped}
use Rattle.register.proofs.book.opening.Register+M+Open.delay.Goals as goal

pub returns-in-Ok-clause-step : goal.returns-in-Ok-clause-step
returns-in-Ok-clause-step g c = stepped (search rules) (search rules) refl

pub returns-in-Err-clause-step : goal.returns-in-Err-clause-step
returns-in-Err-clause-step g c = stepped (search rules) (search rules) refl
