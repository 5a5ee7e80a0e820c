use Rattle.std.proofs.Common.{refl}
use Rattle.process.proofs.Walks.{places-within, weights_limit}
use Rattle.process.proofs.walk.steps.Goals as goal

pub returns : goal.returns
returns g c =
    let m = c.args.model.now in
    let p = g.M.Model.meaning m in
    let formed = g.met.M.Model.formed m c.requires in
    record {
      model = refl;
      moves = refl;
      within = places-within g.M.Model.scale p formed c.args.state c.args.option;
      limit = weights_limit g.M.Model.scale p formed c.args.state c.args.option;
    }
