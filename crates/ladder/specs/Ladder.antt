-- What the numbers of a contactor ladder mean, and which numbers are taken.
use Rattle.std.specs.Prelude.{ℕ, ◌+◌, ◌-◌, Bool, cond, List, [], ◌∷◌, map, Ok, Result, nat_le, nat_lt}
use Rattle.std.specs.List.{range_with_len}
use Rattle.refusal.specs.Tellings.{Telling, at_ladder}
use Rattle.refusal.specs.Tests.{between, first_false, unless}
use Rattle.process.specs.declared.place.End.TheVariants.{Target, Exit}
use Rattle.process.specs.declared.place.Place.{Place}
use Rattle.process.specs.declared.place.Place.TheVariants.{State, End as Ends}
use Rattle.process.specs.declared.place.Move.{Move}
use Rattle.process.specs.Process.{Process}
use Rattle.ladder.specs.declared.chances.Chances.{Chances}

-- the part of 4096 that does not fail
abbrev pub spent : Chances → ℕ
spent c = c.target + c.exit + c.again

abbrev pub fits : Chances → Bool
fits c = nat_le (spent c) 4096

-- where a failed try leads after s failures, of t tries: to the next, and after the last to the exit
abbrev pub after_failure : ℕ → ℕ → Place
after_failure t s = cond (nat_lt (s + 1) t) (State (s + 1)) (Ends Exit)

abbrev pub move_to : Place → ℕ → Move
move_to q w = record { place = q; weight = w }

-- the moves of an option after s failures, of t tries
abbrev pub moves_after : ℕ → Chances → ℕ → List Move
moves_after t c s =
    move_to (Ends Target) c.target
    ∷ (move_to (Ends Exit) c.exit
    ∷ (move_to (State s) c.again
    ∷ (move_to (after_failure t s) (4096 - spent c) ∷ [])))

abbrev pub options_after : ℕ → Chances → Chances → ℕ → List (List Move)
options_after t forty twenty s = moves_after t forty s ∷ (moves_after t twenty s ∷ [])

abbrev pub tried : ℕ → Chances → Chances → Process
tried t forty twenty = map (options_after t forty twenty) (range_with_len 0 t)

-- the ladder that the numbers make, or what is wrong with them
abbrev pub answer : ℕ → Chances → Chances → Result Process Telling
answer t forty twenty =
    unless (at_ladder 31) (first_false (between 1 4096 t ∷ []))
    (unless (at_ladder 32) (first_false (fits forty ∷ (fits twenty ∷ []))) (Ok (tried t forty twenty)))
