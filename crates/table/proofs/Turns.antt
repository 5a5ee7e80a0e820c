-- The lists that a check goes through pair by pair, and when starts pass.
use Rattle.std.proofs.Common.{◌≡◌, ℕ, zero, suc, ◌+◌, ◌-◌, ◌*◌, ◌<◌, ◌≤◌, true, false, eqb, List, [], ◌∷◌, ◌++◌, length, get_or, take, drop, Fits, w32, refl, sym, ap, ◌∙◌, inl, inr, add-one, arith}
use Rattle.std.proofs.lemmas.Bool.{cases_Bool, lt-ltb, eq-eqb}
use Rattle.std.proofs.lemmas.List.{get_or-take, get_or-drop, length-drop}
use Rattle.process.specs.declared.place.Move.{Move}
use Rattle.process.specs.Process.{weights}
use Rattle.encoding.specs.Reading.{moves_read, pieces}
use Rattle.encoding.specs.Answers.{rises, starts}
use Rattle.encoding.proofs.Pieces.{get_or-pieces, starts_say}
use Rattle.table.specs.Runs.{move_read}

pub pair_read : (x rest : List ℕ) → length x ≡ 2 → moves_read (x ++ rest) ≡ move_read x 0 ∷ moves_read rest
pair_read [] rest h = absurd (omega arith)
pair_read (a ∷ []) rest h = absurd (omega arith)
pair_read (a ∷ (b ∷ [])) rest h = refl
pair_read (a ∷ (b ∷ (c ∷ x))) rest h = absurd (omega arith)

pub weights_bound : (ms : List ℕ) → ((i : ℕ) → Fits w32 (get_or ms i 0)) → weights (moves_read ms) ≤ length ms * 4294967295
weights_bound [] h = omega arith
weights_bound (p ∷ []) h = omega arith
weights_bound (p ∷ (w ∷ ms)) h = omega (arith, (h 1).fits, weights_bound ms (λ i. h (suc (suc i))))

-- the moves of a part of a list of places and weights
pub moves_drop : (k : ℕ) (ms : List ℕ) → moves_read (drop (2 * k) ms) ≡ drop k (moves_read ms)
moves_drop zero ms = refl
moves_drop (suc k) [] = let e : 2 * suc k ≡ suc (suc (2 * k)) = omega arith in rw e
moves_drop (suc k) (p ∷ []) = let e : 2 * suc k ≡ suc (suc (2 * k)) = omega arith in rw e
moves_drop (suc k) (p ∷ (w ∷ ms)) = let e : 2 * suc k ≡ suc (suc (2 * k)) = omega arith in rw e (moves_drop k ms)

pub moves_take : (k : ℕ) (ms : List ℕ) → moves_read (take (2 * k) ms) ≡ take k (moves_read ms)
moves_take zero ms = refl
moves_take (suc k) [] = let e : 2 * suc k ≡ suc (suc (2 * k)) = omega arith in rw e
moves_take (suc k) (p ∷ []) = let e : 2 * suc k ≡ suc (suc (2 * k)) = omega arith in rw e
moves_take (suc k) (p ∷ (w ∷ ms)) = let e : 2 * suc k ≡ suc (suc (2 * k)) = omega arith in rw e (ap (λ l. move_read (p ∷ (w ∷ [])) 0 ∷ l) (moves_take k ms))

-- starts that begin at 0 and rise step by step pass if they end at the end
rises_value : (a : ℕ) (r : List ℕ) (end : ℕ) → ((k : ℕ) → k < length r → get_or (a ∷ r) k 0 < get_or r k 0)
    → eqb (get_or (a ∷ r) (length r) 0) end ≡ rises a r end
rises_value a [] end h = refl
rises_value a (b ∷ r) end h = rw (lt-ltb a b (h 0 (omega arith))) (rises_value b r end (λ k l. h (suc k) (omega arith)))

pub starts_value : (us : List ℕ) (end : ℕ) → 1 ≤ length us → get_or us 0 0 ≡ 0
    → ((k : ℕ) → k + 1 < length us → get_or us k 0 < get_or us (k + 1) 0) → eqb (get_or us (length us - 1) 0) end ≡ starts us end
starts_value [] end n f h = absurd (omega arith)
starts_value (a ∷ r) end n f h =
    let z : length (a ∷ r) - 1 ≡ length r = omega arith in
    let e : eqb a 0 ≡ true = eq-eqb a 0 f in
    rw (z, e) (rises_value a r end (λ k l. let g = h k (omega arith) in rw add-one at g))

-- and no others do
pub starts_no : (us : List ℕ) (end : ℕ) → (((k : ℕ) → k + 1 < length us → get_or us k 0 < get_or us (k + 1) 0) → ⊥) → false ≡ starts us end
starts_no us end stays =
    elim (cases_Bool (starts us end)) [ inl t ↦ absurd (stays (starts_say us end t).step) | inr f ↦ sym f ]

-- one pair of neighbours in a list of starts
pub window_at : (us rest x : List ℕ) (n i : ℕ) → rest ≡ drop i us → n ≡ 2 → n ≤ length rest → x ≡ take n rest
    → (i + 1 < length us) × (get_or x 0 0 ≡ get_or us i 0) × (get_or x 1 0 ≡ get_or us (i + 1) 0)
window_at us rest x n i e t h w =
    let at : (j : ℕ) → j < 2 → get_or x j 0 ≡ get_or us (i + j) 0 =
    λ j l. ap (λ y. get_or y j 0) (w ∙ ap (take n) e) ∙ (get_or-take n (drop i us) j 0 (omega arith) ∙ get_or-drop i us j 0) in
    let z : i + 0 ≡ i = omega arith in
    (omega (arith, ap length e, length-drop i us), rw z at (at 0 (omega arith)), at 1 (omega arith))

pub piece_here : (us x : List ℕ) (ms : List Move) (i : ℕ) → i + 1 < length us
    → get_or x 0 0 ≡ get_or us i 0 → get_or x 1 0 ≡ get_or us (i + 1) 0
    → weights (take (get_or x 1 0 - get_or x 0 0) (drop (get_or x 0 0) ms)) ≡ weights (get_or (pieces us ms) i [])
piece_here us x ms i h e f = rw (e, f) (ap weights (sym (get_or-pieces us ms i h)))

-- the moves between two starts, cut out before they are read
pub moves_between : (ms : List ℕ) (from to : ℕ)
    → moves_read (take (2 * to - 2 * from) (drop (2 * from) ms)) ≡ take (to - from) (drop from (moves_read ms))
moves_between ms from to =
    let d : 2 * to - 2 * from ≡ 2 * (to - from) = omega arith in
    rw (d, moves_take (to - from) (drop (2 * from) ms), moves_drop from ms)

-- a pair cut out of a list of places and weights
pub pair_at : (ms : List ℕ) (i at : ℕ) → at ≡ 2 * i → move_read (take (at + 2 - at) (drop at ms)) 0 ≡ move_read ms i
pair_at ms i at e =
    let n : at + 2 - at ≡ 2 = omega arith in
    let z : at + 0 ≡ 2 * i = omega arith in
    let o : at + 1 ≡ 2 * i + 1 = omega arith in
    let p : get_or (take 2 (drop at ms)) 0 0 ≡ get_or ms (2 * i) 0 =
    get_or-take 2 (drop at ms) 0 0 (omega arith) ∙ (get_or-drop at ms 0 0 ∙ ap (λ j. get_or ms j 0) z) in
    let q : get_or (take 2 (drop at ms)) 1 0 ≡ get_or ms (2 * i + 1) 0 =
    get_or-take 2 (drop at ms) 1 0 (omega arith) ∙ (get_or-drop at ms 1 0 ∙ ap (λ j. get_or ms j 0) o) in
    rw (n, p, q)
