use Rattle.std.proofs.Common.{◌≡◌, ◌+◌, ◌*◌, ◌^◌, ◌≤◌, length}
use Rattle.process.specs.Process.{weights}
use Rattle.process.specs.Queries.{moves_of}
use Rattle.process.specs.Means.{mean, worth}
use Rattle.process.specs.Steps.{moves_left, LeadWithin}
use Rattle.bounds.specs.Vectors.{value_at}
use Rattle.kinds.specs.StateKinds.{reward_of}
use Rattle.vectors.proofs.levels.Levels.sum_moves.Given as goal

abbrev pub invariant-loop-step : goal.invariant-loop-step
invariant-loop-step g l =
    let p = g.M.Model.meaning l.self.model.now in
    let left = moves_left g.M.Model.meaning l.step-iterator in
    let sum = mean (worth (value_at l.self.entries.now) (reward_of l.self.kind)) in
    (l.total + sum left ≡ sum (moves_of p l.state l.option))
    × (l.total + 2 ^ 32 * weights left ≤ 2 ^ 48)
    × LeadWithin (length p) left
