use Rattle.std.proofs.Common.{arith}
use Rattle.bounds.specs.Vectors.{inflow}
use Rattle.flows.proofs.Flowing.{at-state, each-length, inflow_limit}
use Rattle.flows.proofs.amounts.Amounts.balanced_at.Goals as goal

pub bounds-tally-state : goal.bounds-tally-state
bounds-tally-state g c =
    let y = c.args.self.now in
    let p = g.M.Model.meaning y.model.now in
    omega (arith, each-length p (inflow p y.entries.now) c.args.tally.now c.requires.filled)

pub overflow_add-tally : goal.overflow_add-tally
overflow_add-tally g c =
    let y = c.args.self.now in
    let p = g.M.Model.meaning y.model.now in
    omega (
      arith,
      at-state p (inflow p y.entries.now) c.args.tally.now c.args.state c.requires.filled c.requires.state,
      inflow_limit g.M.Model.scale p (g.met.M.Model.formed y.model.now c.requires.valid) y.entries.now y.fits c.args.state,
      c.grant_of-grant.ensures.bound,
    )

pub returns : goal.returns
returns g c =
    let y = c.args.self.now in
    let p = g.M.Model.meaning y.model.now in
    let has = at-state p (inflow p y.entries.now) c.args.tally.now c.args.state c.requires.filled c.requires.state in
    cc
