-- A list cut at rising starts, and the starts of lists that stand one after another: each undoes the other.
use Rattle.std.proofs.Common.{◌≡◌, ℕ, zero, suc, ◌+◌, ◌-◌, ◌<◌, ◌≤◌, true, eqb, ltb, List, [], ◌∷◌, ◌++◌, length, get_or, take, drop, sym, refl, ap, ◌∙◌, inl, inr, add-one, arith, length-append, length-drop}
use Rattle.std.specs.List.{AllByRecursion as Every}
use Rattle.std.proofs.lemmas.List.{drop_all, drop-drop, drop_at, take_at, take-append-drop, length-take-le, get_or_past, get_or-take, get_or-drop}
use Rattle.std.proofs.ByRecursion.{All-take, All-drop}
use Rattle.std.proofs.lemmas.Bool.{cases_lt, ltb-true, lt-ltb, eqb-true, eq-eqb, and_parts, and_from, false≢true}
use Rattle.process.specs.Process.{joined}
use Rattle.encoding.specs.Reading.{pieces}
use Rattle.encoding.specs.Writing.{starts_from}
use Rattle.encoding.specs.Answers.{rises, starts}

pub length-pieces : {A : Type 0} (us : List ℕ) (xs : List A) → length (pieces us xs) ≡ length us - 1
length-pieces [] xs = refl
length-pieces (a ∷ []) xs = refl
length-pieces (a ∷ (b ∷ r)) xs = omega (arith, length-pieces (b ∷ r) xs)

piece : {A : Type 0} (us : List ℕ) (xs : List A) (i : ℕ) → suc i < length us
    → get_or (pieces us xs) i [] ≡ take (get_or us (suc i) 0 - get_or us i 0) (drop (get_or us i 0) xs)
piece [] xs i h = absurd (omega arith)
piece (a ∷ []) xs i h = absurd (omega arith)
piece (a ∷ (b ∷ r)) xs zero h = refl
piece (a ∷ (b ∷ r)) xs (suc i) h = piece (b ∷ r) xs i (omega arith)

pub get_or-pieces : {A : Type 0} (us : List ℕ) (xs : List A) (i : ℕ) → i + 1 < length us
    → get_or (pieces us xs) i [] ≡ take (get_or us (i + 1) 0 - get_or us i 0) (drop (get_or us i 0) xs)
get_or-pieces us xs i h = rw add-one (piece us xs i (omega arith))

pub all_pieces : {A : Type 0} (P : A → Type 0) (us : List ℕ) (xs : List A) → Every P xs → Every (Every P) (pieces us xs)
all_pieces P [] xs h = tt
all_pieces P (a ∷ []) xs h = tt
all_pieces P (a ∷ (b ∷ r)) xs h = (All-take P (b - a) (drop a xs) (All-drop P a xs h), all_pieces P (b ∷ r) xs h)

-- rising starts
rises_parts : (a b : ℕ) (r : List ℕ) (end : ℕ) → rises a (b ∷ r) end ≡ true → (a < b) × (rises b r end ≡ true)
rises_parts a b r end e = let p = and_parts (ltb a b) (rises b r end) e in (ltb-true a b p.0, p.1)

rises_below : (a : ℕ) (r : List ℕ) (end : ℕ) → rises a r end ≡ true → a ≤ end
rises_below a [] end e = omega (arith, eqb-true a end e)
rises_below a (b ∷ r) end e = let p = rises_parts a b r end e in omega (arith, rises_below b r end p.1)

rises-within : (a : ℕ) (r : List ℕ) (end : ℕ) → rises a r end ≡ true
    → (i : ℕ) → i ≤ length r → get_or (a ∷ r) i 0 ≤ end
rises-within a r end e zero h = rises_below a r end e
rises-within a [] end e (suc i) h = absurd (omega arith)
rises-within a (b ∷ r) end e (suc i) h = rises-within b r end (rises_parts a b r end e).1 i (omega arith)

rises_step : (a : ℕ) (r : List ℕ) (end : ℕ) → rises a r end ≡ true
    → (i : ℕ) → suc i ≤ length r → get_or (a ∷ r) i 0 < get_or (a ∷ r) (suc i) 0
rises_step a [] end e i h = absurd (omega arith)
rises_step a (b ∷ r) end e zero h = (rises_parts a b r end e).0
rises_step a (b ∷ r) end e (suc i) h = rises_step b r end (rises_parts a b r end e).1 i (omega arith)

-- what holds of every list that rises from 0 holds of starts that pass
from_rises : (us : List ℕ) (end : ℕ) → starts us end ≡ true
    → (P : List ℕ → Type 0) → ((r : List ℕ) → rises 0 r end ≡ true → P (0 ∷ r)) → P us
from_rises [] end e P f = absurd (false≢true e)
from_rises (a ∷ r) end e P f =
    let p = and_parts (eqb a 0) (rises a r end) e in
    let z = eqb-true a 0 p.0 in
    rw z (f r (rw z at p.1))

-- a list of starts that passes
pub record Starts (us : List ℕ) (end : ℕ) : Type 0 where
  pub some : 1 ≤ length us
  pub first : get_or us 0 0 ≡ 0
  pub within : (i : ℕ) → i < length us → get_or us i 0 ≤ end
  pub step : (i : ℕ) → i + 1 < length us → get_or us i 0 < get_or us (i + 1) 0

pub starts_say : (us : List ℕ) (end : ℕ) → starts us end ≡ true → Starts us end
starts_say us end e =
    from_rises us end e (λ us. Starts us end)
    (λ r p.
    record {
      some = omega arith;
      first = refl;
      within = λ i h. rises-within 0 r end p i (omega arith);
      step = λ i h. rw add-one (rises_step 0 r end p i (omega arith));
    })

-- cut from a start `a` on, the pieces are what is left of the list from there
module _ {A : Type 0} (xs : List A) where
  length_piece : (a b : ℕ) → a ≤ b → b ≤ length xs → length (take (b - a) (drop a xs)) ≡ b - a
  length_piece a b h k = length-take-le (b - a) (drop a xs) (simp length-drop (omega arith))

  first-length : (a b : ℕ) (r : List ℕ) → rises a (b ∷ r) (length xs) ≡ true
      → a + length (take (b - a) (drop a xs)) ≡ b
  first-length a b r e =
      let p = rises_parts a b r (length xs) e in
      omega (arith, length_piece a b (omega arith) (rises_below b r (length xs) p.1))

  rises-joined : (a : ℕ) (r : List ℕ) → rises a r (length xs) ≡ true → joined (pieces (a ∷ r) xs) ≡ drop a xs
  rises-joined a [] e = sym (drop_all a xs (omega (arith, eqb-true a (length xs) e)))
  rises-joined a (b ∷ r) e =
      let p = rises_parts a b r (length xs) e in
      let h : a + (b - a) ≡ b = omega arith in
      let d : drop (b - a) (drop a xs) ≡ drop b xs = drop-drop (b - a) a xs ∙ ap (λ k. drop k xs) h in
      ap (λ l. take (b - a) (drop a xs) ++ l) (rises-joined b r p.1 ∙ sym d) ∙ take-append-drop (b - a) (drop a xs)

  rises-first : (a : ℕ) (r : List ℕ) → rises a r (length xs) ≡ true
      → (i : ℕ) → i ≤ length r → a + length (joined (take i (pieces (a ∷ r) xs))) ≡ get_or (a ∷ r) i 0
  rises-first a r e zero h = omega arith
  rises-first a [] e (suc i) h = absurd (omega arith)
  rises-first a (b ∷ r) e (suc i) h =
      omega (
        arith,
        first-length a b r e,
        length-append (take (b - a) (drop a xs)) (joined (take i (pieces (b ∷ r) xs))),
        rises-first b r (rises_parts a b r (length xs) e).1 i (omega arith),
      )

  rises-some : (a : ℕ) (r : List ℕ) → rises a r (length xs) ≡ true → Every (λ l. 1 ≤ length l) (pieces (a ∷ r) xs)
  rises-some a [] e = tt
  rises-some a (b ∷ r) e =
      let p = rises_parts a b r (length xs) e in (omega (arith, first-length a b r e), rises-some b r p.1)

  rises-starts : (a : ℕ) (r : List ℕ) → rises a r (length xs) ≡ true → starts_from a (pieces (a ∷ r) xs) ≡ a ∷ r
  rises-starts a [] e = refl
  rises-starts a (b ∷ r) e =
      ap (λ l. a ∷ l)
      (ap (λ n. starts_from n (pieces (b ∷ r) xs)) (first-length a b r e)
      ∙ rises-starts b r (rises_parts a b r (length xs) e).1)

-- a list cut at starts that pass
module _ {A : Type 0} (us : List ℕ) (xs : List A) (k : starts us (length xs) ≡ true) where
  pub joined-pieces : joined (pieces us xs) ≡ xs
  joined-pieces = from_rises us (length xs) k (λ us. joined (pieces us xs) ≡ xs) (rises-joined xs 0)

  pub first_pieces : (i : ℕ) → i < length us → length (joined (take i (pieces us xs))) ≡ get_or us i 0
  first_pieces =
      from_rises us (length xs) k (λ us. (i : ℕ) → i < length us → length (joined (take i (pieces us xs))) ≡ get_or us i 0)
      (λ r e i h. omega (arith, rises-first xs 0 r e i (omega arith)))

  -- no piece is empty
  pub some-pieces : Every (λ l. 1 ≤ length l) (pieces us xs)
  some-pieces = from_rises us (length xs) k (λ us. Every (λ l. 1 ≤ length l) (pieces us xs)) (rises-some xs 0)

  pub starts-pieces : starts_from 0 (pieces us xs) ≡ us
  starts-pieces = from_rises us (length xs) k (λ us. starts_from 0 (pieces us xs) ≡ us) (rises-starts xs 0)

  pub piece_within : (i : ℕ) → i + 1 < length us → (get_or us i 0 < get_or us (i + 1) 0) × (get_or us (i + 1) 0 ≤ length xs)
  piece_within i h = let s = starts_say us (length xs) k in (s.step i h, s.within (i + 1) h)

  pub piece_length : (i : ℕ) → length (get_or (pieces us xs) i []) ≡ get_or us (i + 1) 0 - get_or us i 0
  piece_length i =
      elim (cases_lt (i + 1) (length us)) [
        | inl h ↦
            let p = piece_within i h in
            ap length (get_or-pieces us xs i h) ∙ length_piece xs (get_or us i 0) (get_or us (i + 1) 0) (omega arith) p.1
        | inr h ↦
            rw (get_or_past (pieces us xs) i [] (simp length-pieces (omega arith)), get_or_past us (i + 1) 0 h) (omega arith)
      ]

  pub piece_at : (i j : ℕ) (d : A) → j < get_or us (i + 1) 0 - get_or us i 0
      → get_or (get_or (pieces us xs) i []) j d ≡ get_or xs (get_or us i 0 + j) d
  piece_at i j d h =
      elim (cases_lt (i + 1) (length us)) [
        | inl l ↦
            rw (get_or-pieces us xs i l, get_or-take (get_or us (i + 1) 0 - get_or us i 0) (drop (get_or us i 0) xs) j d h)
            (get_or-drop (get_or us i 0) xs j d)
        | inr l ↦ absurd (omega (arith, get_or_past us (i + 1) 0 l))
      ]

-- the starts of lists one after another
pub length-starts : {A : Type 0} (n : ℕ) (xss : List (List A)) → length (starts_from n xss) ≡ length xss + 1
length-starts n [] = refl
length-starts n (xs ∷ xss) = omega (arith, length-starts (n + length xs) xss)

rises_from : {A : Type 0} (a n end : ℕ) (xss : List (List A)) → a < n → n + length (joined xss) ≡ end
    → Every (λ l. 1 ≤ length l) xss → rises a (starts_from n xss) end ≡ true
rises_from a n end [] h e s = and_from (ltb a n) (eqb n end) (lt-ltb a n h) (eq-eqb n end (omega arith))
rises_from a n end (xs ∷ xss) h e s =
    and_from (ltb a n) _ (lt-ltb a n h)
    (rises_from n (n + length xs) end xss (omega (arith, s.0)) (omega (arith, length-append xs (joined xss))) s.1)

pub starts_good : {A : Type 0} (xss : List (List A)) → Every (λ l. 1 ≤ length l) xss
    → starts (starts_from 0 xss) (length (joined xss)) ≡ true
starts_good [] s = refl
starts_good (xs ∷ xss) s =
    rises_from 0 (0 + length xs) (length (xs ++ joined xss)) xss
    (omega (arith, s.0)) (omega (arith, length-append xs (joined xss))) s.1

pieces_more : {A : Type 0} (a b : ℕ) (xss : List (List A)) (zs : List A)
    → pieces (a ∷ starts_from b xss) zs ≡ take (b - a) (drop a zs) ∷ pieces (starts_from b xss) zs
pieces_more a b [] zs = refl
pieces_more a b (xs ∷ xss) zs = refl

pieces_from : {A : Type 0} (n : ℕ) (xss : List (List A)) (zs : List A) → drop n zs ≡ joined xss
    → pieces (starts_from n xss) zs ≡ xss
pieces_from n [] zs e = refl
pieces_from n (xs ∷ xss) zs e =
    let h : length xs ≡ n + length xs - n = omega arith in
    let t = ap (take (n + length xs - n)) e ∙ take_at xs (joined xss) (n + length xs - n) h in
    let d = sym (drop-drop (length xs) n zs) ∙ ap (drop (length xs)) e ∙ drop_at xs (joined xss) (length xs) refl in
    let p = pieces_from (n + length xs) xss zs d in
    pieces_more n (n + length xs) xss zs ∙ rw (t, p)

pub pieces-joined : {A : Type 0} (xss : List (List A)) → pieces (starts_from 0 xss) (joined xss) ≡ xss
pieces-joined xss = pieces_from 0 xss (joined xss) refl
