-- What is wrong with three lists that are to spell a process at scale d, in the order in which it is told.
use Rattle.std.specs.Prelude.{ℕ, ◌-◌, ◌/◌, ◌%◌, Bool, true, false, ◌&&◌, List, [], ◌∷◌, length, Ok, Result, ◌==◌, nat_le, nat_lt}
use Rattle.refusal.specs.Tellings.{Telling, at_table}
use Rattle.refusal.specs.Tests.{between, first_bad, first_false, unless}
use Rattle.process.specs.declared.place.Place.{Place}
use Rattle.process.specs.declared.place.Place.TheVariants.{State, End as Ends}
use Rattle.process.specs.declared.place.Move.{Move}
use Rattle.process.specs.Process.{weights}
use Rattle.encoding.specs.Lists.{Lists}
use Rattle.encoding.specs.Reading.{moves_read, options_read}

-- 21: each list's length
abbrev pub lengths_fit : Lists → List Bool
lengths_fit l =
    between 2 4097 (length l.option_starts)
    ∷ (between 2 16385 (length l.move_starts)
    ∷ ((between 2 131072 (length l.moves) && length l.moves % 2 == 0) ∷ []))

-- from `a` on the starts rise strictly and end at `end`
abbrev pub rises : ℕ → List ℕ → ℕ → Bool
rises a [] end = a == end
rises a (b ∷ rest) end = nat_lt a b && rises b rest end

-- begins at 0, rises strictly and ends at `end`
abbrev pub starts : List ℕ → ℕ → Bool
starts [] end = false
starts (a ∷ rest) end = a == 0 && rises a rest end

-- 22: the starts of options and of moves
abbrev pub starts_fit : Lists → List Bool
starts_fit l =
    starts l.option_starts (length l.move_starts - 1) ∷ (starts l.move_starts (length l.moves / 2) ∷ [])

abbrev pub within : ℕ → Place → Bool
within n (State s) = nat_lt s n
within n (Ends q) = true

-- 23: a move leads to a place that exists where there are n states, with a weight of at most d
abbrev pub move_fits : (d n : ℕ) → Move → Bool
move_fits d n m = within n m.place && nat_le m.weight d

-- 24: the weights of an option add up to d
abbrev pub sum_fits : ℕ → List Move → Bool
sum_fits d ms = weights ms == d

abbrev pub answer : ℕ → Lists → Result (Unit {0}) Telling
answer d l =
    unless (at_table 21) (first_false (lengths_fit l))
    (unless (at_table 22) (first_false (starts_fit l))
    (unless (at_table 23) (first_bad (move_fits d (length l.option_starts - 1)) 0 (moves_read l.moves))
    (unless (at_table 24) (first_bad (sum_fits d) 0 (options_read l)) (Ok tt))))
