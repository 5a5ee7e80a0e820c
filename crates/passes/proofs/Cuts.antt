-- The first line of a text, and the rest of its lines.
use Rattle.std.proofs.Common.{◌≡◌, ℕ, suc, ◌+◌, ◌<◌, true, false, cond, not, eqb, List, [], ◌∷◌, length, take, drop, refl, ap, ◌∙◌, add-one, one-add, arith}
use Rattle.std.specs.List.{prefix_len, flat_map}
use Rattle.lines.specs.Lines.{inside, first_line, after_line}
use Rattle.passes.specs.Texts.{onto, lines}

lines-first : (b : ℕ) (bs : List ℕ)
    → lines (b ∷ bs) ≡ take (suc (prefix_len inside (b ∷ bs))) (b ∷ bs) ∷ lines (drop (suc (prefix_len inside (b ∷ bs))) (b ∷ bs))
lines-first b [] =
    elim (eqb b 10) as (λ t. cond t ((b ∷ []) ∷ []) ((b ∷ []) ∷ []) ≡ take (suc (cond (not t) 1 0)) (b ∷ []) ∷ lines (drop (suc (cond (not t) 1 0)) (b ∷ []))) [ true ↦ refl | false ↦ refl ]
lines-first b (x ∷ xs) =
    let n = prefix_len inside (x ∷ xs) in
    let rest = lines-first x xs in
    elim (eqb b 10) as (λ t. cond t ((b ∷ []) ∷ lines (x ∷ xs)) (onto b (lines (x ∷ xs))) ≡ take (suc (cond (not t) (1 + n) 0)) (b ∷ (x ∷ xs)) ∷ lines (drop (suc (cond (not t) (1 + n) 0)) (b ∷ (x ∷ xs)))) [
      | true ↦ refl
      | false ↦ rw (one-add n) (ap (onto b) rest)
    ]

pub lines_cut : (t : List ℕ) → 0 < length t → lines t ≡ first_line t ∷ lines (after_line t)
lines_cut [] h = absurd (omega arith)
lines_cut (b ∷ bs) h = rw add-one (lines-first b bs)

-- the lines of a text are the whole text
whole-onto : (b : ℕ) (ls : List (List ℕ)) → flat_map (λ l. l) (onto b ls) ≡ b ∷ flat_map (λ l. l) ls
whole-onto b [] = refl
whole-onto b (l ∷ ls) = refl

pub lines-whole : (t : List ℕ) → flat_map (λ l. l) (lines t) ≡ t
lines-whole [] = refl
lines-whole (b ∷ bs) =
    let rest = lines-whole bs in
    elim (eqb b 10) as (λ x. flat_map (λ l. l) (cond x ((b ∷ []) ∷ lines bs) (onto b (lines bs))) ≡ b ∷ bs) [
      | true ↦ ap (λ t. b ∷ t) rest
      | false ↦ whole-onto b (lines bs) ∙ ap (λ t. b ∷ t) rest
    ]
