-- Sets of states, the marks that fill one, and which marks are taken.
use Rattle.std.specs.Prelude.{ℕ, Bool, true, false, cond, leb, List, length, Some, Ok, Option, Result, ◌==◌, nat_le, slice_index, slice_index_or}
use Rattle.refusal.specs.Tellings.{Telling, at_part}
use Rattle.refusal.specs.Tests.{first_bad, unless}
use Rattle.process.specs.declared.place.Place.{Place}
use Rattle.process.specs.declared.place.Place.TheVariants.{State, End as Ends}

-- the set that flags stand for
abbrev pub set_of : List Bool → ℕ → Bool
set_of flags s = slice_index_or flags s false

abbrev pub none : ℕ → Bool
none s = false

-- the states whose mark is 1; states past the list are not among them
abbrev pub marked : List ℕ → ℕ → Bool
marked marks s = slice_index marks s == 1

-- whether a move may lead to a place where only some states are kept
abbrev pub leaves : (ℕ → Bool) → Place → Bool
leaves kept (State s) = kept s
leaves kept (Ends q) = true

-- 46: too many marks, else the first that is neither 0 nor 1
abbrev pub bad_mark : List ℕ → Option ℕ
bad_mark marks = cond (nat_le (length marks) 4096) (first_bad (λ b. leb b 1) 0 marks) (Some 4096)

abbrev pub answer : List ℕ → Result (Unit {0}) Telling
answer marks = unless (at_part 46) (bad_mark marks) (Ok tt)
