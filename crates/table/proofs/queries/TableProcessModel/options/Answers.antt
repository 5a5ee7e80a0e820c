use Rattle.std.proofs.Common.{sym, ◌∙◌}
use Rattle.table.proofs.Found.{good, span_read}
use Rattle.table.proofs.queries.TableProcessModel.options.Goals as goal

pub returns : goal.returns
returns c = c.span.ensures.value ∙ sym (span_read 1000 _ (good c.args.self.now) c.args.state)
