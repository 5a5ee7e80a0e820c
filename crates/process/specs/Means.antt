-- Sums over the moves of an option: each weight times what the place that it leads to is worth.
use Rattle.std.specs.Prelude.{ℕ, ◌+◌, ◌*◌, Bool, true, false, cond, List, [], ◌∷◌}
use Rattle.process.specs.declared.place.End.{End}
use Rattle.process.specs.declared.place.End.TheVariants.{Target, Exit}
use Rattle.process.specs.declared.place.Place.{Place}
use Rattle.process.specs.declared.place.Place.TheVariants.{State, End as Ends}
use Rattle.process.specs.declared.place.Move.{Move}

abbrev pub mean : (Place → ℕ) → List Move → ℕ
mean f [] = 0
mean f (m ∷ ms) = m.weight * f m.place + mean f ms

abbrev pub is_target : End → Bool
is_target Target = true
is_target Exit = false

-- t at the ends that are looked for, and 0 at the others
abbrev pub paid : (End → Bool) → ℕ → End → ℕ
paid goal t q = cond (goal q) t 0

-- what a place is worth: `at` of a state, v of an end
abbrev pub valued : (ℕ → ℕ) → (End → ℕ) → Place → ℕ
valued at v (State s) = at s
valued at v (Ends q) = v q

-- `at` of a state, t at the target, and 0 at any other end
abbrev pub worth : (ℕ → ℕ) → ℕ → Place → ℕ
worth at t = valued at (paid is_target t)
