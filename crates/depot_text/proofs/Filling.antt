-- Lists filled from their start on, and the starts of lists one after another.
use Rattle.std.proofs.Common.{◌≡◌, ℕ, suc, ◌+◌, List, [], ◌∷◌, ◌++◌, map, length, sym, refl, ap, ◌∙◌, arith, length-append}
use lib.ListN.{length-map}
use Rattle.std.proofs.lemmas.List.{map-append}
use Rattle.process.specs.declared.place.Move.{Move}
use Rattle.process.specs.Process.{joined}
use Rattle.encoding.specs.Writing.{starts_from, moves_written}

-- where each of several lists starts, without where the last one ends
abbrev pub heads : {A : Type 0} → ℕ → List (List A) → List ℕ
heads n [] = []
heads n (xs ∷ xss) = n ∷ heads (n + length xs) xss

pub length_heads : {A : Type 0} (n : ℕ) (xss : List (List A)) → length (heads n xss) ≡ length xss
length_heads n [] = refl
length_heads n (xs ∷ xss) = ap suc (length_heads (n + length xs) xss)

pub starts-append : {A : Type 0} (n : ℕ) (xss yss : List (List A))
    → starts_from n (xss ++ yss) ≡ heads n xss ++ starts_from (n + length (joined xss)) yss
starts-append n [] yss = let same : n ≡ n + 0 = omega arith in ap (λ k. starts_from k yss) same
starts-append n (xs ∷ xss) yss =
    let long = length-append xs (joined xss) in
    let same : n + length xs + length (joined xss) ≡ n + length (xs ++ joined xss) = omega arith in
    ap (λ z. n ∷ z)
    (starts-append (n + length xs) xss yss ∙ ap (λ k. heads (n + length xs) xss ++ starts_from k yss) same)

-- other elements change no starts
pub starts-map : {A B : Type 0} (f : A → B) (n : ℕ) (xss : List (List A))
    → starts_from n (map (map f) xss) ≡ starts_from n xss
starts-map f n [] = refl
starts-map f n (xs ∷ xss) =
    ap (λ z. n ∷ z)
    (ap (λ k. starts_from (n + k) (map (map f) xss)) (length-map xs f) ∙ starts-map f (n + length xs) xss)

pub joined-map : {A B : Type 0} (f : A → B) (xss : List (List A)) → joined (map (map f) xss) ≡ map f (joined xss)
joined-map f [] = refl
joined-map f (xs ∷ xss) = ap (λ z. map f xs ++ z) (joined-map f xss) ∙ sym (map-append f xs (joined xss))

pub moves_written-append : (ms ns : List Move) → moves_written (ms ++ ns) ≡ moves_written ms ++ moves_written ns
moves_written-append [] ns = refl
moves_written-append (m ∷ ms) ns = rw (moves_written-append ms ns)
