use Rattle.std.proofs.Common.{◌≡◌, ℕ, ◌<◌, cond, ltb, get_or}
use Rattle.bounds.specs.Vectors.{own}
use Rattle.flows.proofs.amounts.Amounts.mark_spent.Given as goal

abbrev pub invariant-loop-state : goal.invariant-loop-state
invariant-loop-state g l =
    (k : ℕ) → k < l.state
    → get_or l.marks k 0 ≡ cond (ltb 0 (own (g.M.Model.meaning l.self.model.now) l.self.entries.now k)) 1 0
