-- A text whose bytes are those of a word is the word.
use Rattle.std.proofs.Common.{◌≡◌, ℕ, ◌+◌, List, [], ◌∷◌, length, get_or, drop, sym, ap, ◌∙◌, arith}
use Rattle.std.proofs.Math.Seq.{drop-length}
use Rattle.std.proofs.lemmas.List.{drop_more}

-- from its byte i on a text is these bytes, and no more
abbrev pub Reads : List ℕ → ℕ → List ℕ → Type 0
Reads xs i [] = length xs ≡ i
Reads xs i (w ∷ ws) = (get_or xs i 0 ≡ w) × Reads xs (i + 1) ws

length_reads : (xs : List ℕ) (i : ℕ) (ws : List ℕ) → Reads xs i ws → length xs ≡ i + length ws
length_reads xs i [] h = omega arith
length_reads xs i (w ∷ ws) h = omega (arith, length_reads xs (i + 1) ws h.1)

reads_on : (xs : List ℕ) (i : ℕ) (ws : List ℕ) → Reads xs i ws → drop i xs ≡ ws
reads_on xs i [] h = ap (λ n. drop n xs) (sym h) ∙ drop-length xs
reads_on xs i (w ∷ ws) h =
    let within = length_reads xs i (w ∷ ws) h in
    drop_more xs i 0 (omega arith) ∙ (λ k. h.0 k ∷ reads_on xs (i + 1) ws h.1 k)

pub text_reads : (ws xs : List ℕ) → Reads xs 0 ws → xs ≡ ws
text_reads ws xs h = reads_on xs 0 ws h
