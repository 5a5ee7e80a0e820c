use Rattle.std.proofs.Common.{rules}
use Rattle.runs.proofs.Leading.{stepped}
use Rattle.register.proofs.book.Register.risk.Goals as goal

pub returns-in_err-take-clause-step : goal.returns-in_err-take-clause-step
returns-in_err-take-clause-step g c = stepped (search rules) (search rules) (search rules)

pub returns-in_err-flow-clause-step : goal.returns-in_err-flow-clause-step
returns-in_err-flow-clause-step g c = stepped (search rules) (search rules) (search rules)

pub returns-clause-step : goal.returns-clause-step
returns-clause-step g c = stepped (search rules) (search rules) (search rules)
