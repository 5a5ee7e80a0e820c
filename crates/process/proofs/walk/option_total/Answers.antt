use Rattle.std.proofs.Common.{◌-◌, arith}
use Rattle.process.proofs.Walks.{span_end}
use Rattle.process.proofs.walk.option_total.Goals as goal

pub returns : goal.returns
returns g c =
    let m = c.args.model.now in
    let f = g.met.M.Model.formed m c.requires in
    record {
      value =
          omega (
            arith,
            c.span_of-last.ensures.spanned.first (omega (arith, f.some_state)),
            span_end (g.M.Model.meaning m) (c.states.result - 1) (omega (arith, f.some_state)) (omega arith),
          );
      limit = omega arith;
    }
