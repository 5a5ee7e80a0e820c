-- Walks over a process: what its queries answer once they are made total, and one turn of a sum over moves.
use Rattle.std.proofs.Common.{◌≡◌, ℕ, zero, suc, ◌+◌, ◌*◌, ◌^◌, ◌<◌, ◌≤◌, List, [], ◌∷◌, ◌++◌, length, get_or, take, unwrap_or, sym, ap, ◌∙◌, inl, inr, suc-le-suc, le_refl, add_assoc, zero-add, arith, length-append}
use Rattle.std.specs.List.{AllByRecursion as Every}
use Rattle.std.proofs.lemmas.Nat.{mul-le}
use Rattle.std.proofs.ByRecursion.{All-get_or, All-append}
use Rattle.std.proofs.lemmas.List.{take_more, take_all, get_or_append_left, get_or-append-add, get_or_past}
use Rattle.std.proofs.lemmas.Option.{slice_get-get_or, slice_get_past}
use Rattle.std.proofs.lemmas.Bool.{cases_Bool, cases_lt, lt-ltb, le-ltb, cond-true, cond-false}
use Rattle.process.specs.declared.place.Place.{Place}
use Rattle.process.specs.declared.place.Place.TheVariants.{State, End as Ends}
use Rattle.process.specs.declared.place.Move.{Move}
use Rattle.process.specs.declared.place.Span.{Span}
use Rattle.process.specs.Process.{Process, joined, weights, Within, OptionFormed, StateFormed, Formed}
use Rattle.process.specs.Queries.{options_at, moves_of, move_at}
use Rattle.process.specs.Means.{mean, is_target, valued, worth}
use Rattle.process.specs.Walks.{no_options, no_move, Spanned, Step}
use Rattle.process.proofs.Joined.{length-joined_more}

-- what a place is worth, by arithmetic
pub worth_parts : (at : ℕ → ℕ) (t : ℕ) (q : Place)
    → at (valued (λ s. s) (λ _. 0) q) * valued (λ _. 1) (λ _. 0) q + t * worth (λ _. 0) 1 q ≡ worth at t q
worth_parts at t (State s) = omega arith
worth_parts at t (Ends q) = elim (cases_Bool (is_target q)) [ inl h ↦ rw h (omega arith) | inr h ↦ rw h (omega arith) ]

-- option k of state s, by its number in the whole process
pub joined_at : {A : Type 0} (p : List (List A)) (s k : ℕ) (d : A) → s < length p → k < length (get_or p s [])
    → get_or (joined p) (length (joined (take s p)) + k) d ≡ get_or (get_or p s []) k d
joined_at [] s k d h l = elim h [ ]
joined_at (x ∷ p) zero k d h l = rw zero-add (get_or_append_left x (joined p) d k l)
joined_at (x ∷ p) (suc s) k d (suc-le-suc h) l =
    rw (length-append, add_assoc, get_or-append-add) (joined_at p s k d h l)

-- the options of a state end within those of the process, and those of the last state end them
pub span_last : {A : Type 0} (p : List (List A)) (s : ℕ) → s < length p
    → length (joined (take s p)) + length (get_or p s []) ≤ length (joined p)
span_last [] s h = elim h [ ]
span_last (x ∷ p) zero h = simp length-append (omega arith)
span_last (x ∷ p) (suc s) (suc-le-suc h) = simp length-append (omega (arith, span_last p s h))

pub span_end : {A : Type 0} (p : List (List A)) (s : ℕ) → s < length p → length p ≤ s + 1
    → length (joined (take s p)) + length (get_or p s []) ≡ length (joined p)
span_end p s h l = sym (length-joined_more p s h) ∙ ap (λ q. length (joined q)) (take_all (s + 1) p l)

pub all_joined : (d n : ℕ) (p : Process) → Every (StateFormed d n) p → Every (OptionFormed d n) (joined p)
all_joined d n [] h = tt
all_joined d n (os ∷ p) h = All-append (OptionFormed d n) os (joined p) h.0.each (all_joined d n p h.1)

-- sums over the first moves of an option
mean_push : (f : Place → ℕ) (ms : List Move) (m : Move) → mean f (ms ++ m ∷ []) ≡ mean f ms + m.weight * f m.place
mean_push f [] m = omega arith
mean_push f (x ∷ ms) m = omega (arith, mean_push f ms m)

weights_push : (ms : List Move) (m : Move) → weights (ms ++ m ∷ []) ≡ weights ms + m.weight
weights_push [] m = omega arith
weights_push (x ∷ ms) m = omega (arith, weights_push ms m)

weights-take : (ms : List Move) (i : ℕ) → weights (take i ms) ≤ weights ms
weights-take ms zero = omega arith
weights-take [] (suc i) = omega arith
weights-take (m ∷ ms) (suc i) = omega (arith, weights-take ms i)

pub mean-take : (f : Place → ℕ) (ms : List Move) (i : ℕ) → mean f (take i ms) ≤ mean f ms
mean-take f ms zero = omega arith
mean-take f [] (suc i) = omega arith
mean-take f (m ∷ ms) (suc i) = omega (arith, mean-take f ms i)

-- a sum whose terms are below 2 ^ 32 times their weights stays below 2 ^ 32 times these
pub bound_turn : (total w v W W' : ℕ) → total ≤ 2 ^ 32 * W → v < 2 ^ 32 → W' ≡ W + w → total + w * v ≤ 2 ^ 32 * W'
bound_turn total w v W W' h l e = let q : v ≤ 2 ^ 32 = omega arith in omega (arith, mul-le w v w (2 ^ 32) (le_refl w) q)

module _ (d : ℕ) (p : Process) (formed : Formed d p) where
  pub spanned : (s : ℕ) (r : Span) → r ≡ unwrap_or (options_at p s) no_options → Spanned p s r
  spanned s r e =
      elim (cases_lt s (length p)) [
        | inl h ↦
            let e' = e ∙ ap (λ o. unwrap_or o no_options) (cond-true _ _ _ (lt-ltb s (length p) h)) in
            let a : r.first ≡ length (joined (take s p)) = ap (λ w. w.first) e' in
            let b : r.count ≡ length (get_or p s []) = ap (λ w. w.count) e' in
            record { first = λ _. a; count = b; last = omega (arith, span_last p s h); limit = formed.option_limit }
        | inr h ↦
            let e' = e ∙ ap (λ o. unwrap_or o no_options) (cond-false _ _ _ (le-ltb s (length p) h)) in
            let a : r.first ≡ 0 = ap (λ w. w.first) e' in
            let b : r.count ≡ 0 = ap (λ w. w.count) e' in
            record {
              first = λ l. absurd (omega arith);
              count = b ∙ sym (ap length (get_or_past p s [] h));
              last = omega arith;
              limit = formed.option_limit;
            }
      ]

  pub option_formed : (s o : ℕ) → s < length p → o < length (get_or p s []) → OptionFormed d (length p) (moves_of p s o)
  option_formed s o h l =
      All-get_or (OptionFormed d (length p)) (get_or p s []) o [] l
      (All-get_or (StateFormed d (length p)) p s [] h formed.each).each

  -- an option is missing, and so has no moves, or its weights make the scale
  pub weights_limit : (s o : ℕ) → weights (moves_of p s o) ≤ 65536
  weights_limit s o =
      elim (cases_lt s (length p)) [
        | inl h ↦
            elim (cases_lt o (length (get_or p s []))) [
              | inl l ↦ omega (arith, (option_formed s o h l).sum, formed.scale_limit)
              | inr l ↦ omega (arith, ap weights (get_or_past (get_or p s []) o [] l))
            ]
        | inr h ↦ omega (arith, ap (λ (os : List (List Move)). weights (get_or os o [])) (get_or_past p s [] h))
      ]

  pub weights-limit : (s o i : ℕ) → weights (take i (moves_of p s o)) ≤ 65536
  weights-limit s o i = omega (arith, weights-take (moves_of p s o) i, weights_limit s o)

  pub places-within : (s o : ℕ) → Every (λ m. Within (length p) m.place) (moves_of p s o)
  places-within s o =
      elim (cases_lt s (length p)) [
        | inl h ↦
            elim (cases_lt o (length (get_or p s []))) [
              | inl l ↦ (option_formed s o h l).places
              | inr l ↦ rw (get_or_past (get_or p s []) o [] l) tt
            ]
        | inr h ↦ rw (get_or_past p s [] h) tt
      ]

  pub stepped : (s o i : ℕ) (m : Move) → m ≡ unwrap_or (move_at p s o i) no_move → Step (length p) (moves_of p s o) i m
  stepped s o i m e =
      let ms = moves_of p s o in
      elim (cases_lt i (length ms)) [
        | inl h ↦
            let is : get_or ms i m ≡ m = sym (e ∙ ap (λ r. unwrap_or r no_move) (slice_get-get_or ms i m h)) in
            let more : take (i + 1) ms ≡ take i ms ++ m ∷ [] =
            take_more ms i m h ∙ ap (λ x. take i ms ++ x ∷ []) is in
            record {
              within = rw is at (All-get_or (λ x. Within (length p) x.place) ms i m h (places-within s o));
              mean_is = λ f. ap (mean f) more ∙ mean_push f (take i ms) m;
              weights_is = ap weights more ∙ weights_push (take i ms) m;
              limit = weights-limit s o (i + 1);
            }
        | inr h ↦
            let none : m ≡ no_move = e ∙ ap (λ r. unwrap_or r no_move) (slice_get_past ms i h) in
            let same : take (i + 1) ms ≡ take i ms = take_all (i + 1) ms (omega arith) ∙ sym (take_all i ms h) in
            rw none
            record {
              within = tt;
              mean_is = λ f. rw same (omega arith);
              weights_is = rw same (omega arith);
              limit = weights-limit s o (i + 1);
            }
      ]
