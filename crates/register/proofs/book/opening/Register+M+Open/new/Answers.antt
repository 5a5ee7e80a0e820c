use Rattle.std.proofs.Common.{[], rules}
use Rattle.runs.specs.Steps.{by_calls}
use Rattle.register.proofs.book.opening.Register+M+Open.new.Goals as goal

pub returns-clause-reached : goal.returns-clause-reached
returns-clause-reached g c = by_calls [] (search rules)
