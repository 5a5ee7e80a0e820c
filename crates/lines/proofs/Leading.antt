-- What stands in front of a list and passes a test.
use Rattle.std.proofs.Common.{◌≡◌, ◌+◌, Bool, true, List, [], ◌∷◌, ◌++◌, length, take, ◌∙◌, subst, inl, inr, one-add, arith}
use Rattle.std.specs.List.{prefix_len, AllByRecursion as Every}
use Rattle.std.proofs.lemmas.List.{append-nil, take_all}
use Rattle.std.proofs.lemmas.Bool.{cases_Bool, cond-true}

module _ {X : Type 0} (p : X → Bool) where
  pub leading_append : (xs ys : List X) → Every (λ x. p x ≡ true) xs → prefix_len p (xs ++ ys) ≡ length xs + prefix_len p ys
  leading_append [] ys h = omega arith
  leading_append (x ∷ xs) ys h =
      cond-true (p x) (1 + prefix_len p (xs ++ ys)) 0 h.0 ∙ omega (arith, leading_append xs ys h.1)

  pub leading_all : (xs : List X) → Every (λ x. p x ≡ true) xs → prefix_len p xs ≡ length xs
  leading_all xs h = omega (arith, rw append-nil at (leading_append xs [] h))

  pub all_leading : (xs : List X) → Every (λ x. p x ≡ true) (take (prefix_len p xs) xs)
  all_leading [] = tt
  all_leading (x ∷ xs) =
      elim (cases_Bool (p x)) [
        | inl t ↦ rw (t, one-add (prefix_len p xs)) (t, all_leading xs)
        | inr f ↦ rw f tt
      ]

  pub all_from_leading : (xs : List X) → prefix_len p xs ≡ length xs → Every (λ x. p x ≡ true) xs
  all_from_leading xs e =
      subst (Every (λ x. p x ≡ true)) (take_all (prefix_len p xs) xs (omega arith)) (all_leading xs)
