use Rattle.std.proofs.Common.{rules, refl}
use Rattle.runs.proofs.Leading.{stepped}
use Rattle.register.proofs.book.Register.cap.Goals as goal

pub returns-in_err-take-clause-step : goal.returns-in_err-take-clause-step
returns-in_err-take-clause-step g c = stepped (search rules) (search rules) refl

pub returns-in_err-bound-clause-step : goal.returns-in_err-bound-clause-step
returns-in_err-bound-clause-step g c = stepped (search rules) (search rules) refl

pub returns-clause-step : goal.returns-clause-step
returns-clause-step g c = stepped (search rules) (search rules) refl
