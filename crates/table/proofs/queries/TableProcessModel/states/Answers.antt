use Rattle.std.proofs.Common.{sym}
use Rattle.table.proofs.Found.{good, states_read}
use Rattle.table.proofs.queries.TableProcessModel.states.Goals as goal

pub returns : goal.returns
returns c = sym (states_read 1000 _ (good c.args.self.now))
