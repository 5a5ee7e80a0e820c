use Rattle.process.proofs.Walks.{stepped}
use Rattle.process.proofs.walk.step_of.Goals as goal

pub returns-clause-step : goal.returns-clause-step
returns-clause-step g c =
    let m = c.args.model.now in
    stepped g.M.Model.scale (g.M.Model.meaning m) (g.met.M.Model.formed m c.requires) c.args.state c.args.option c.args.index c.unwrap_or.result (cc)
