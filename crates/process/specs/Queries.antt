-- The answers to a model's queries, drawn from its meaning; nothing where what is asked for is missing.
use Rattle.std.specs.Prelude.{ℕ, cond, List, [], length, take, Some, None, Option, nat_lt, slice_index_or}
use Rattle.std.specs.List.{slice_get}
use Rattle.process.specs.declared.place.Move.{Move}
use Rattle.process.specs.declared.place.Span.{Span}
use Rattle.process.specs.Process.{Process, joined}

-- the moves of option o of state s
abbrev pub moves_of : Process → ℕ → ℕ → List Move
moves_of p s o = slice_index_or (slice_index_or p s []) o []

-- the options of state s, counted through the whole process
abbrev pub options_at : Process → ℕ → Option Span
options_at p s =
    cond (nat_lt s (length p)) (Some (record { first = length (joined (take s p)); count = length (slice_index_or p s []) })) None

abbrev pub moves_at : Process → ℕ → ℕ → Option ℕ
moves_at p s o = cond (nat_lt o (length (slice_index_or p s []))) (Some (length (moves_of p s o))) None

abbrev pub move_at : Process → ℕ → ℕ → ℕ → Option Move
move_at p s o i = slice_get (moves_of p s o) i
