-- The queries of a ladder, answered from its numbers.
use Rattle.std.proofs.Common.{◌≡◌, ℕ, zero, suc, ◌*◌, ◌<◌, ◌≤◌, cond, ltb, [], ◌∷◌, length, get_or, take, Some, None, Option, refl, ap, ◌∙◌, inl, inr, arith}
use Rattle.std.specs.List.{slice_get}
use Rattle.std.specs.Option.{option_map, option_and_then}
use Rattle.std.proofs.lemmas.List.FromFn.{length-map-range_with_len, get_or-map-range_with_len, take-map-range_with_len}
use Rattle.std.proofs.lemmas.List.{get_or_past}
use Rattle.std.proofs.lemmas.Bool.{cases_lt, lt-ltb, le-ltb}
use Rattle.process.specs.Process.{joined}
use Rattle.process.specs.Queries.{options_at, moves_at, move_at}
use Rattle.ladder.specs.declared.chances.Chances.{Chances}
use Rattle.ladder.specs.Ladder.{moves_after, options_after, tried}
use Rattle.ladder.specs.Laws.{count_options}

module _ (t : ℕ) (forty twenty : Chances) where
  -- the tries that have failed in a state, and the chances of an option
  abbrev failed : ℕ → Option ℕ
  failed s = cond (ltb s t) (Some s) None

  abbrev chances : ℕ → Option Chances
  chances o = slice_get (forty ∷ (twenty ∷ [])) o

  pub states_tried : length (tried t forty twenty) ≡ t
  states_tried = length-map-range_with_len (options_after t forty twenty) 0 t

  state-tried : (s : ℕ) → s < t → get_or (tried t forty twenty) s [] ≡ options_after t forty twenty s
  state-tried s h = get_or-map-range_with_len (options_after t forty twenty) 0 t s s [] h (omega arith)

  state_past : (s : ℕ) → t ≤ s → get_or (tried t forty twenty) s [] ≡ []
  state_past s h = get_or_past (tried t forty twenty) s [] (omega (arith, states_tried))

  pub options_tried : (s : ℕ) → options_at (tried t forty twenty) s ≡ option_map (λ k. record { first = 2 * k; count = 2 }) (failed s)
  options_tried s =
      elim (cases_lt s t) [
        | inl h ↦
            let b : length (joined (take s (tried t forty twenty))) ≡ 2 * s =
            ap (λ p. length (joined p)) (take-map-range_with_len (options_after t forty twenty) 0 t s (omega arith))
            ∙ count_options t forty twenty 0 s in
            rw (states_tried, lt-ltb s t h, b, state-tried s h)
        | inr h ↦ rw (states_tried, le-ltb s t h)
      ]

  pub moves_tried : (s o : ℕ) → moves_at (tried t forty twenty) s o ≡ option_and_then (λ k. option_map (λ c. 4) (chances o)) (failed s)
  moves_tried s o =
      elim (cases_lt s t) [
        | inl h ↦ rw (lt-ltb s t h, state-tried s h) (of_option s o)
        | inr h ↦ rw (le-ltb s t h, state_past s h, le-ltb o 0 (omega arith))
      ]
    where
      of_option : (s o : ℕ)
          → cond (ltb o 2) (Some (length (get_or (options_after t forty twenty s) o []))) None ≡ option_map (λ c. 4) (chances o)
      of_option s zero = refl
      of_option s (suc zero) = refl
      of_option s (suc (suc o)) = rw (le-ltb (suc (suc o)) 2 (omega arith))

  pub move_tried : (s o i : ℕ) → move_at (tried t forty twenty) s o i
      ≡ option_and_then (λ k. option_and_then (λ c. slice_get (moves_after t c k) i) (chances o)) (failed s)
  move_tried s o i =
      elim (cases_lt s t) [
        | inl h ↦ rw (lt-ltb s t h, state-tried s h) (of_option s o i)
        | inr h ↦ rw (le-ltb s t h, state_past s h)
      ]
    where
      of_option : (s o i : ℕ) → slice_get (get_or (options_after t forty twenty s) o []) i
          ≡ option_and_then (λ c. slice_get (moves_after t c s) i) (chances o)
      of_option s zero i = refl
      of_option s (suc zero) i = refl
      of_option s (suc (suc o)) i = refl

pub ruleset ladder_queries = (states_tried, options_tried, moves_tried, move_tried)
