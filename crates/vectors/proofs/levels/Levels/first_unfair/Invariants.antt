use Rattle.std.proofs.Common.{◌≡◌, length}
use Rattle.kinds.specs.StateKinds.{holds_at}
use Rattle.vectors.specs.Verdicts.{first_failing}
use Rattle.vectors.proofs.Searches.{from_state, from_option}
use Rattle.vectors.proofs.levels.Levels.first_unfair.Given as goal

abbrev pub invariant-loop-option : goal.invariant-loop-option
invariant-loop-option g l =
    let p = g.M.Model.meaning l.self.model.now in
    let ok = holds_at l.self.kind g.M.Model.scale (length p) l.self.entries.now in
    from_option ok p l.state l.option ≡ first_failing ok 0 0 p

abbrev pub invariant-loop-state : goal.invariant-loop-state
invariant-loop-state g l =
    let p = g.M.Model.meaning l.self.model.now in
    let ok = holds_at l.self.kind g.M.Model.scale (length p) l.self.entries.now in
    from_state ok p l.state ≡ first_failing ok 0 0 p
