use Rattle.std.proofs.Common.{◌+◌, length, take}
use Rattle.process.specs.Process.{joined}
use Rattle.flows.proofs.Flowing.{Poured}
use Rattle.flows.proofs.amounts.Amounts.fill_tally.Given as goal

abbrev pub invariant-loop-option : goal.invariant-loop-option
invariant-loop-option g l =
    let p = g.M.Model.meaning l.self.model.now in
    Poured p l.self.entries.now (length (joined (take l.state p)) + l.option) l.tally l.gained

abbrev pub invariant-loop-state : goal.invariant-loop-state
invariant-loop-state g l =
    let p = g.M.Model.meaning l.self.model.now in
    Poured p l.self.entries.now (length (joined (take l.state p))) l.tally l.gained
