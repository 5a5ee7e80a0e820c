-- Where the options of a state and the moves of an option stand in the lists.
use Rattle.std.specs.Prelude.{ℕ, ◌+◌, ◌-◌, ◌*◌, cond, List, length, Some, None, Option, nat_lt, slice_index}
use Rattle.process.specs.declared.place.Move.{Move}
use Rattle.process.specs.declared.place.Span.{Span}
use Rattle.encoding.specs.Lists.{Lists}
use Rattle.encoding.specs.Reading.{place_read}

-- where part i of a list stands, from the starts of its parts
abbrev pub span_from : List ℕ → ℕ → Span
span_from us i = record { first = slice_index us i; count = slice_index us (i + 1) - slice_index us i }

abbrev pub span_in : List ℕ → ℕ → Option Span
span_in us i = cond (nat_lt i (length us - 1)) (Some (span_from us i)) None

-- the options of a state
abbrev pub span_of : Lists → ℕ → Span
span_of l s = span_from l.option_starts s

abbrev pub span_at : Lists → ℕ → Option Span
span_at l s = span_in l.option_starts s

-- how many options a state has
abbrev pub option_count : Lists → ℕ → ℕ
option_count l s = (span_of l s).count

-- the moves of option k of the whole list
abbrev pub run_of : Lists → ℕ → Span
run_of l k = span_from l.move_starts k

abbrev pub run_at : Lists → ℕ → ℕ → Option Span
run_at l s o = cond (nat_lt o (option_count l s)) (Some (run_of l ((span_of l s).first + o))) None

-- move i of a list of places and weights
abbrev pub move_read : List ℕ → ℕ → Move
move_read ms i = record { place = place_read (slice_index ms (2 * i)); weight = slice_index ms (2 * i + 1) }

-- move i of a run
abbrev pub run_move : List ℕ → Option Span → ℕ → Option Move
run_move ms None i = None
run_move ms (Some w) i = cond (nat_lt i w.count) (Some (move_read ms (w.first + i))) None
