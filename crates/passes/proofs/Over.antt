-- One number more over the front of a list.
use Rattle.std.proofs.Common.{◌≡◌, ℕ, ◌+◌, ◌<◌, List, [], ◌∷◌, ◌++◌, length, drop, set, sym, ap, ◌∙◌, append_assoc, arith}
use Rattle.std.proofs.lemmas.List.{drop_more, length_push, set_at}
use Rattle.passes.specs.Over.{over}

pub set_over : (xs old : List ℕ) (n v : ℕ) → n ≡ length xs → n < length old
    → set (over xs old) n v ≡ over (xs ++ (v ∷ [])) old
set_over xs old n v e h =
    let more : drop (length xs) old ≡ _ = drop_more old (length xs) 0 (omega arith) in
    let long = length_push xs v in
    ap (λ z. set (xs ++ z) n v) more
    ∙ set_at xs _ (drop (length xs + 1) old) v n (sym e)
    ∙ sym (append_assoc xs (v ∷ []) (drop (length xs + 1) old))
    ∙ ap (λ k. (xs ++ (v ∷ [])) ++ drop k old) (sym long)
