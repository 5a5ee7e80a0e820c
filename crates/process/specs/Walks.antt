-- What a walk through a process learns of the options of a state and of one move.
use Rattle.std.specs.Prelude.{◌≡◌, ℕ, ◌+◌, ◌*◌, ◌<◌, ◌≤◌, List, [], length, take, slice_index_or}
use Rattle.process.specs.declared.place.Place.{Place}
use Rattle.process.specs.declared.place.Move.{Move}
use Rattle.process.specs.declared.place.Span.{Span}
use Rattle.process.specs.Process.{Process, joined, weights, Within}
use Rattle.process.specs.Parts.{gone}
use Rattle.process.specs.Means.{mean}

-- what is told of a state that is missing
abbrev pub no_options : Span
no_options = record { first = 0; count = 0 }

-- what is told of a move that is missing: it adds nothing to a sum
abbrev pub no_move : Move
no_move = record { place = gone; weight = 0 }

-- the options of state s, by their numbers in the whole process
pub record Spanned (p : Process) (s : ℕ) (r : Span) : Type 0 where
  pub first : s < length p → r.first ≡ length (joined (take s p))
  pub count : r.count ≡ length (slice_index_or p s [])
  pub last : r.first + r.count ≤ length (joined p)
  pub limit : length (joined p) ≤ 16384

-- move i of an option, where there are n states: what it adds to a sum over the moves before it
pub record Step (n : ℕ) (ms : List Move) (i : ℕ) (m : Move) : Type 0 where
  pub within : Within n m.place
  pub mean_is : (f : Place → ℕ) → mean f (take (i + 1) ms) ≡ mean f (take i ms) + m.weight * f m.place
  pub weights_is : weights (take (i + 1) ms) ≡ weights (take i ms) + m.weight
  pub limit : weights (take (i + 1) ms) ≤ 65536
