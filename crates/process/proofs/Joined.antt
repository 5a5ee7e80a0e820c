-- Lists one after another.
use Rattle.std.proofs.Common.{◌≡◌, ℕ, zero, suc, ◌+◌, ◌<◌, ◌≤◌, List, [], ◌∷◌, ◌++◌, length, map, get_or, take, sum, sum_by, sym, refl, ap, ◌∙◌, append_assoc, arith, length-append}
use Rattle.std.specs.List.{range_with_len}
use Rattle.std.proofs.lemmas.List.{take_more, append-nil, length-map, get_or-map}
use Rattle.std.proofs.lemmas.List.FromFn.{fill_by_all}
use Rattle.std.proofs.lemmas.List.Sums.{sum_by-cons, sum-map}
use Rattle.process.specs.Process.{joined}

pub joined-append : {A : Type 0} (xs ys : List (List A)) → joined (xs ++ ys) ≡ joined xs ++ joined ys
joined-append [] ys = refl
joined-append (x ∷ xs) ys = ap (λ l. x ++ l) (joined-append xs ys) ∙ sym (append_assoc x (joined xs) (joined ys))

pub length-joined-append : {A : Type 0} (xs ys : List (List A))
    → length (joined (xs ++ ys)) ≡ length (joined xs) + length (joined ys)
length-joined-append xs ys = ap length (joined-append xs ys) ∙ length-append (joined xs) (joined ys)

-- one list more
module _ {A : Type 0} (xss : List (List A)) (i : ℕ) (h : i < length xss) where
  joined_more : joined (take (i + 1) xss) ≡ joined (take i xss) ++ get_or xss i []
  joined_more =
      ap joined (take_more xss i [] h)
      ∙ (joined-append (take i xss) (get_or xss i [] ∷ []) ∙ ap (λ l. joined (take i xss) ++ l) (append-nil (get_or xss i [])))

  pub length-joined_more : length (joined (take (i + 1) xss)) ≡ length (joined (take i xss)) + length (get_or xss i [])
  length-joined_more = ap length joined_more ∙ length-append (joined (take i xss)) (get_or xss i [])

-- the same by a sum: of a list by its places, of lists, and of lists of lists
pub sum_places : {A : Type 0} (f : A → ℕ) (xs : List A) (d : A) (n : ℕ) → n ≡ length xs
    → sum (map (λ i. f (get_or xs i d)) (range_with_len 0 n)) ≡ sum_by f xs
sum_places f xs d n e =
    let l : length (map f xs) ≡ n = length-map xs f ∙ sym e in
    let all = fill_by_all (λ i. f (get_or xs i d)) (map f xs) n 0 l (λ k h. get_or-map f xs k d 0 (omega arith)) in
    ap sum (sym all) ∙ sum-map f xs

pub sum_lengths : {A : Type 0} (xss : List (List A)) → sum_by length xss ≡ length (joined xss)
sum_lengths [] = refl
sum_lengths (xs ∷ xss) = omega (arith, sum_by-cons length xs xss, length-append xs (joined xss), sum_lengths xss)

pub sum_lengths_twice : {A : Type 0} (p : List (List (List A))) → sum_by (λ os. length (joined os)) p ≡ length (joined (joined p))
sum_lengths_twice [] = refl
sum_lengths_twice (os ∷ p) =
    omega (arith, sum_by-cons (λ os. length (joined os)) os p, length-joined-append os (joined p), sum_lengths_twice p)

-- the lists of one place are together no longer than all
pub length-joined-at : {A : Type 0} (p : List (List (List A))) (i : ℕ)
    → length (joined (get_or p i [])) ≤ length (joined (joined p))
length-joined-at [] i = omega arith
length-joined-at (os ∷ p) zero = omega (arith, length-joined-append os (joined p))
length-joined-at (os ∷ p) (suc i) = omega (arith, length-joined-append os (joined p), length-joined-at p i)
