use Rattle.std.proofs.Common.{◌≡◌, ℕ, ◌+◌, ◌*◌, ◌<◌, length, get_or}
use Rattle.process.specs.Queries.{moves_of}
use Rattle.process.specs.Steps.{moves_left, LeadWithin}
use Rattle.bounds.specs.Vectors.{weight_to, weight_to_target}
use Rattle.flows.proofs.pouring.pour.Given as goal

abbrev pub invariant-loop-step : goal.invariant-loop-step
invariant-loop-step g l =
    let p = g.M.Model.meaning l.model in
    let ms = moves_of p l.state l.option in
    let left = moves_left g.M.Model.meaning l.step-iterator in
    ((s : ℕ) → s < length l.tally
    → get_or l.tally s 0 + l.flow * weight_to s left ≡ get_or l.fn.tally s 0 + l.flow * weight_to s ms)
    × (l.gained + l.flow * weight_to_target left ≡ l.flow * weight_to_target ms)
    × LeadWithin (length p) left
