use Rattle.std.proofs.Common.{rules, ◌≡◌, length, replicate, arith}
use Rattle.flows.proofs.Flowing.{poured_none, tally_room, gained_room, poured_more, poured_state, poured_all, poured_is}
use Rattle.flows.proofs.amounts.Amounts.fill_tally.Goals as goal

pub loop-state-init : goal.loop-state-init
loop-state-init g c =
    let y = c.args.self.now in
    let e : c.fill.new.self ≡ replicate (length c.args.tally.now) 0 = search rules in
    let l : length c.fill.new.self ≡ length c.args.tally.now = omega arith in
    poured_none (g.M.Model.meaning y.model.now) y.entries.now c.fill.new.self (rw l e)

pub pour-gained-requires-clause-room : goal.pour-gained-requires-clause-room
pour-gained-requires-clause-room g c =
    let y = c.args.self.now in
    let m = y.model.now in
    tally_room g.M.Model.scale (g.M.Model.meaning m) (g.met.M.Model.formed m c.requires.valid) y.entries.now y.fits
    c.loop-state.state c.loop-option.option (omega arith) (omega arith) y.one_each c.own-flow-items.result.now
    c.own-flow-items.ensures.entries c.loop-option.tally c.loop-option.gained c.loop-option.invariant

pub overflow_add-gained : goal.overflow_add-gained
overflow_add-gained g c =
    let y = c.args.self.now in
    let m = y.model.now in
    let room =
    gained_room g.M.Model.scale (g.M.Model.meaning m) (g.met.M.Model.formed m c.requires.valid) y.entries.now y.fits
    c.loop-state.state c.loop-option.option (omega arith) (omega arith) y.one_each c.own-flow-items.result.now
    c.own-flow-items.ensures.entries c.loop-option.tally c.loop-option.gained c.loop-option.invariant in
    omega (arith, c.pour-gained.ensures.gain)

pub loop-option-preserved : goal.loop-option-preserved
loop-option-preserved g c =
    let y = c.args.self.now in
    let m = y.model.now in
    poured_more g.M.Model.scale (g.M.Model.meaning m) (g.met.M.Model.formed m c.requires.valid) y.entries.now y.fits
    c.loop-state.state c.loop-option.option (omega arith) (omega arith) y.one_each c.own-flow-items.result.now
    c.own-flow-items.ensures.entries c.loop-option.tally c.loop-option.gained c.loop-option.invariant
    c.pour-gained.new.tally c.pour-gained.result (omega arith) c.pour-gained.ensures.inflow c.pour-gained.ensures.gain

pub loop-state-preserved : goal.loop-state-preserved
loop-state-preserved g c =
    let y = c.args.self.now in
    poured_state (g.M.Model.meaning y.model.now) y.entries.now c.loop-state.state c.loop-option.option
    c.loop-option.tally c.loop-option.gained (omega arith) (omega arith) c.loop-option.invariant

pub returns : goal.returns
returns g c =
    let y = c.args.self.now in
    let p = g.M.Model.meaning y.model.now in
    let r =
    poured_is p y.entries.now c.loop-state.tally c.loop-state.gained (omega arith)
    (poured_all p y.entries.now c.loop-state.state c.loop-state.tally c.loop-state.gained (omega arith) c.loop-state.invariant) in
    record { tally = r.0; gain = r.1 }
