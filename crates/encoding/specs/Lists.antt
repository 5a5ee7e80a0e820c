-- The three lists that spell a process.
use Rattle.std.specs.Prelude.{ℕ, List}

pub record Lists : Type 0 where
  -- where the options of each state start, and where the last ones end
  pub option_starts : List ℕ
  -- where the moves of each option start, and where the last ones end
  pub move_starts : List ℕ
  -- the place and the weight of each move in turn
  pub moves : List ℕ

abbrev pub lists : List ℕ → List ℕ → List ℕ → Lists
lists os ss ms = record { option_starts = os; move_starts = ss; moves = ms }
