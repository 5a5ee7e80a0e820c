-- The queries of a table, answered from its lists.
use Rattle.std.proofs.Common.{◌≡◌, ℕ, ◌+◌, ◌-◌, ◌/◌, ◌<◌, ◌≤◌, true, false, ltb, List, [], length, get_or, take, Some, IfSome, ap, ◌∙◌, inl, inr, arith}
use Rattle.std.specs.Option.{option_map}
use Rattle.std.specs.List.{slice_get}
use Rattle.std.proofs.lemmas.List.{get_or_past}
use Rattle.std.proofs.lemmas.Option.{slice_get-get_or, slice_get_past}
use Rattle.std.proofs.lemmas.Bool.{cases_lt, lt-ltb, le-ltb}
use Rattle.process.specs.declared.place.Move.{Move}
use Rattle.process.specs.declared.place.Span.{Span}
use Rattle.process.specs.Process.{joined}
use Rattle.process.specs.Queries.{options_at, moves_at, move_at}
use Rattle.encoding.specs.Lists.{Lists}
use Rattle.encoding.specs.Reading.{moves_read, options_read, process_read}
use Rattle.encoding.proofs.Pieces.{length-pieces, first_pieces, piece_length, piece_at, piece_within}
use Rattle.encoding.proofs.Moves.{length-moves_read, moves_read-at}
use Rattle.encoding.proofs.Sound.{Sound, sound}
use Rattle.table.specs.declared.Table.{Table}
use Rattle.table.specs.View.{lists_of}
use Rattle.table.specs.Runs.{option_count, span_of, span_at, run_of, run_at, move_read, run_move}

pub good : (t : Table) → Sound 1000 (lists_of t)
good t = sound 1000 (lists_of t) t.ok

-- a span that was found is the state's
pub span_found : (l : Lists) (s : ℕ) (w : Span) → Some w ≡ span_at l s → (s < length l.option_starts - 1) × (w ≡ span_of l s)
span_found l s w e =
    elim (cases_lt s (length l.option_starts - 1)) [
      | inl h ↦ let t = lt-ltb s (length l.option_starts - 1) h in (h, cc)
      | inr h ↦
          let t = le-ltb s (length l.option_starts - 1) h in let z : ◌≡◌ {A = ℕ} 0 1 = cc in absurd (omega arith)
    ]

module _ (d : ℕ) (l : Lists) (k : Sound d l) where
  pub states_read : length (process_read l) ≡ length l.option_starts - 1
  states_read = length-pieces l.option_starts (options_read l)

  count-read : (s : ℕ) → length (get_or (process_read l) s []) ≡ option_count l s
  count-read s = piece_length l.option_starts (options_read l) k.option_rise s

  pub span_within : (s : ℕ) → s < length l.option_starts - 1
      → (get_or l.option_starts s 0 < get_or l.option_starts (s + 1) 0)
      × (get_or l.option_starts (s + 1) 0 < length l.move_starts)
  span_within s h =
      let p = piece_within l.option_starts (options_read l) k.option_rise s (omega arith) in
      (p.0, omega (arith, p.1, length-pieces l.move_starts (moves_read l.moves), k.move_least))

  -- the options of a state stand below the last start of moves
  option-within : (s o : ℕ) → o < option_count l s → get_or l.option_starts s 0 + o + 1 < length l.move_starts
  option-within s o h =
      elim (cases_lt (s + 1) (length l.option_starts)) [
        | inl n ↦ omega (arith, (span_within s (omega arith)).1)
        | inr n ↦ absurd (omega (arith, get_or_past l.option_starts (s + 1) 0 n))
      ]

  pub run_within : (i : ℕ) → i + 1 < length l.move_starts
      → (get_or l.move_starts i 0 < get_or l.move_starts (i + 1) 0) × (get_or l.move_starts (i + 1) 0 ≤ length l.moves / 2)
  run_within i h =
      let p = piece_within l.move_starts (moves_read l.moves) k.move_rise i h in
      (p.0, omega (arith, p.1, length-moves_read l.moves))

  pub span-within : (s : ℕ) → IfSome (span_at l s) (λ w. w.first + w.count < length l.move_starts)
  span-within s =
      elim (cases_lt s (length l.option_starts - 1)) [
        | inl h ↦ let w = span_within s h in rw (lt-ltb s (length l.option_starts - 1) h) (omega (arith, w.0, w.1))
        | inr h ↦ rw (le-ltb s (length l.option_starts - 1) h) tt
      ]

  pub run-within : (s o : ℕ) → IfSome (run_at l s o) (λ w. w.first + w.count ≤ length l.moves / 2)
  run-within s o =
      elim (cases_lt o (option_count l s)) [
        | inl h ↦
            let w = run_within (get_or l.option_starts s 0 + o) (option-within s o h) in
            rw (lt-ltb o (option_count l s) h) (omega (arith, w.0, w.1))
        | inr h ↦ rw (le-ltb o (option_count l s) h) tt
      ]

  pub span_read : (s : ℕ) → options_at (process_read l) s ≡ span_at l s
  span_read s =
      elim (cases_lt s (length l.option_starts - 1)) [
        | inl h ↦
            let t : ltb s (length (process_read l)) ≡ true = lt-ltb s _ (omega (arith, states_read)) in
            let t' : ltb s (length l.option_starts - 1) ≡ true = lt-ltb s _ h in
            let a : length (joined (take s (process_read l))) ≡ get_or l.option_starts s 0 =
            first_pieces l.option_starts (options_read l) k.option_rise s (omega arith) in
            rw (t, t', a, count-read s)
        | inr h ↦
            let t : ltb s (length (process_read l)) ≡ false = le-ltb s _ (omega (arith, states_read)) in
            let t' : ltb s (length l.option_starts - 1) ≡ false = le-ltb s _ h in rw (t, t')
      ]

  -- an option that is there stands in the list of all options
  option-read : (s o : ℕ) → o < option_count l s
      → get_or (get_or (process_read l) s []) o [] ≡ get_or (options_read l) (get_or l.option_starts s 0 + o) []
  option-read s o h = piece_at l.option_starts (options_read l) k.option_rise s o [] h

  option_past : (s o : ℕ) → option_count l s ≤ o → get_or (get_or (process_read l) s []) o [] ≡ []
  option_past s o h = get_or_past (get_or (process_read l) s []) o [] (omega (arith, count-read s))

  pub run_read : (s o : ℕ) → moves_at (process_read l) s o ≡ option_map (λ w. w.count) (run_at l s o)
  run_read s o =
      elim (cases_lt o (option_count l s)) [
        | inl h ↦
            let t : ltb o (option_count l s) ≡ true = lt-ltb o _ h in
            let n : length (get_or (get_or (process_read l) s []) o []) ≡ (run_of l (get_or l.option_starts s 0 + o)).count =
            ap length (option-read s o h) ∙ piece_length l.move_starts (moves_read l.moves) k.move_rise _ in
            rw (count-read s, t, n)
        | inr h ↦ let t : ltb o (option_count l s) ≡ false = le-ltb o _ h in rw (count-read s, t)
      ]

  -- the moves of option i of the whole list
  run_move-read : (i j : ℕ) → i + 1 < length l.move_starts
      → slice_get (get_or (options_read l) i []) j ≡ run_move l.moves (Some (run_of l i)) j
  run_move-read i j h =
      let ms : List Move = get_or (options_read l) i [] in
      let n : length ms ≡ (run_of l i).count = piece_length l.move_starts (moves_read l.moves) k.move_rise i in
      let w = run_within i h in
      elim (cases_lt j (run_of l i).count) [
        | inl g ↦
            let t : ltb j (run_of l i).count ≡ true = lt-ltb j _ g in
            let m : Move = move_read l.moves 0 in
            rw t
            (slice_get-get_or ms j m (omega arith)
            ∙ ap Some
            (piece_at l.move_starts (moves_read l.moves) k.move_rise i j m g
            ∙ moves_read-at l.moves (get_or l.move_starts i 0 + j) m (omega arith)))
        | inr g ↦ let t : ltb j (run_of l i).count ≡ false = le-ltb j _ g in rw t (slice_get_past ms j (omega arith))
      ]

  pub move_found : (s o i : ℕ) → move_at (process_read l) s o i ≡ run_move l.moves (run_at l s o) i
  move_found s o i =
      elim (cases_lt o (option_count l s)) [
        | inl h ↦
            let t : ltb o (option_count l s) ≡ true = lt-ltb o _ h in
            rw (option-read s o h, t) (run_move-read (get_or l.option_starts s 0 + o) i (option-within s o h))
        | inr h ↦ let t : ltb o (option_count l s) ≡ false = le-ltb o _ h in rw (option_past s o h, t)
      ]
