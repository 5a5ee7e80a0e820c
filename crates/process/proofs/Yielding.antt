-- A walk over the moves of an option: what one step leaves.
use Rattle.std.proofs.Common.{◌≡◌, ℕ, ◌+◌, ◌<◌, List, ◌∷◌, length, drop, unwrap_or, Some, sym, ap, ◌∙◌}
use Rattle.std.specs.List.{slice_get}
use Rattle.std.proofs.lemmas.List.{drop_more}
use Rattle.std.proofs.lemmas.Option.{slice_get-get_or, slice_get_within, get_or_from_slice_get}

-- what is left where an element is there
pub left_some : {A : Type 0} (xs : List A) (i : ℕ) (x : A) → Some x ≡ slice_get xs i → drop i xs ≡ x ∷ drop (i + 1) xs
left_some xs i x e =
    drop_more xs i x (slice_get_within xs i x (sym e))
    ∙ ap (λ y. y ∷ drop (i + 1) xs) (get_or_from_slice_get xs i x x (sym e))

-- the same, where it was asked for by a query made total
pub left_total : {A : Type 0} (xs : List A) (i : ℕ) (x none : A) → i < length xs → x ≡ unwrap_or (slice_get xs i) none
    → drop i xs ≡ x ∷ drop (i + 1) xs
left_total xs i x none h e =
    let there = slice_get-get_or xs i x h in
    left_some xs i x (ap Some (e ∙ ap (λ o. unwrap_or o none) there) ∙ sym there)
