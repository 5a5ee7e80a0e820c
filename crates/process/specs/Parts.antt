-- Moves sent elsewhere, and the kept part of a process: a move leads to the exit if its own state or the state that
-- it leads to is not kept.
use Rattle.std.specs.Prelude.{ℕ, suc, Bool, cond, [], ◌∷◌, map}
use Rattle.process.specs.declared.place.End.TheVariants.{Exit}
use Rattle.process.specs.declared.place.Place.{Place}
use Rattle.process.specs.declared.place.Place.TheVariants.{State, End as Ends}
use Rattle.process.specs.declared.place.Move.{Move}
use Rattle.process.specs.Process.{Process}

abbrev pub sent : (Place → Place) → Move → Move
sent g m = record { place = g m.place; weight = m.weight }

-- each move of state s sent where `g s` says
abbrev pub resent : (ℕ → Place → Place) → Process → Process
resent g [] = []
resent g (os ∷ p) = map (map (sent (g 0))) os ∷ resent (λ s. g (suc s)) p

-- where a move leads that is cut off
abbrev pub gone : Place
gone = Ends Exit

abbrev pub kept_place : (ℕ → Bool) → Place → Place
kept_place kept (State s) = cond (kept s) (State s) gone
kept_place kept (Ends q) = Ends q

-- where a move of state s leads in the part that keeps some states
abbrev pub kept_move : (ℕ → Bool) → ℕ → Place → Place
kept_move kept s q = cond (kept s) (kept_place kept q) gone

-- the part of a process that keeps some states
abbrev pub part_of : (ℕ → Bool) → Process → Process
part_of kept p = resent (kept_move kept) p
