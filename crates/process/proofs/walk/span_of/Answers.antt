use Rattle.std.proofs.Common.{rules}
use Rattle.process.proofs.Walks.{spanned}
use Rattle.process.proofs.walk.span_of.Goals as goal

pub returns-clause-spanned : goal.returns-clause-spanned
returns-clause-spanned g c =
    let m = c.args.model.now in
    spanned g.M.Model.scale (g.M.Model.meaning m) (g.met.M.Model.formed m c.requires) c.args.state c.unwrap_or_default.result
    (search rules)
