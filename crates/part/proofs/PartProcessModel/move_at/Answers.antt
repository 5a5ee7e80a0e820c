use Rattle.std.proofs.Common.{sym, arith}
use Rattle.process.proofs.Queries.{within_more, move_state, move_place}
use Rattle.part.proofs.PartProcessModel.move_at.Goals as goal

pub sent-requires : goal.sent-requires
sent-requires g c =
    let p = g.M.Model.meaning c.args.self.now.below in
    let f = g.met.M.Model.formed c.args.self.now.below c.requires in
    let e = sym c.in_ok-found.ensures in
    record {
      state = omega (arith, f.state_limit, move_state g.M.Model.scale p f c.args.state c.args.option c.args.index _ e);
      place =
          within_more _ 4096 _ f.state_limit
          (move_place g.M.Model.scale p f c.args.state c.args.option c.args.index _ e);
    }
