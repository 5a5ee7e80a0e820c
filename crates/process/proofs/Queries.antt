-- What a query's answer says of a well-formed process.
use Rattle.std.proofs.Common.{◌≡◌, ℕ, ◌<◌, ◌≤◌, List, [], length, get_or, Some, ap, inl, inr, arith}
use Rattle.std.proofs.ByRecursion.{All-get_or}
use Rattle.std.proofs.lemmas.List.{get_or_past}
use Rattle.std.proofs.lemmas.Option.{slice_get_within, get_or_from_slice_get}
use Rattle.std.proofs.lemmas.Bool.{cases_lt}
use Rattle.process.specs.declared.place.Place.{Place}
use Rattle.process.specs.declared.place.Place.TheVariants.{State, End as Ends}
use Rattle.process.specs.declared.place.Move.{Move}
use Rattle.process.specs.Process.{Process, Within, OptionFormed, StateFormed, Formed}
use Rattle.process.specs.Queries.{moves_of, move_at}

-- a list that has an element is not past the end of a list of lists
get_or-within : {A : Type 0} (xss : List (List A)) (i k : ℕ) → k < length (get_or xss i []) → i < length xss
get_or-within xss i k h =
    elim (cases_lt i (length xss)) [
      | inl l ↦ l
      | inr l ↦ absurd (omega (arith, ap length (get_or_past xss i [] l)))
    ]

pub within_more : (n n' : ℕ) (q : Place) → n ≤ n' → Within n q → Within n' q
within_more n n' (State s) h w = omega arith
within_more n n' (Ends q) h w = tt

module _ (d : ℕ) (p : Process) (f : Formed d p) (s o i : ℕ) (m : Move) (e : move_at p s o i ≡ Some m) where
  move_index : i < length (moves_of p s o)
  move_index = slice_get_within (moves_of p s o) i m e

  move_option : o < length (get_or p s [])
  move_option = get_or-within (get_or p s []) o i move_index

  pub move_state : s < length p
  move_state = get_or-within p s o move_option

  pub move_place : Within (length p) m.place
  move_place =
      let state = All-get_or (StateFormed d (length p)) p s [] move_state f.each in
      let option = All-get_or (OptionFormed d (length p)) (get_or p s []) o [] move_option state.each in
      rw (get_or_from_slice_get (moves_of p s o) i m m e)
      at (All-get_or (λ x. Within (length p) x.place) (moves_of p s o) i m move_index option.places)
