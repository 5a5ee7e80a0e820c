-- The first number at which a test of a list fails, found by a search through the numbers.
use Rattle.std.proofs.Common.{◌≡◌, ℕ, zero, suc, ◌<◌, ◌≤◌, Bool, true, false, List, length, get_or, None, Some, Option, refl, add-one, arith}
use Rattle.std.specs.Option.{MatchOption}
use Rattle.refusal.specs.Tests.{first_bad}
use Rattle.refusal.proofs.Tests.{Searched, search_on, search_found, search_ended}

module _ {A : Type 0} (ok : A → Bool) (xs : List A) (d : A) where
  passed : (i : ℕ) → i ≤ length xs → ((k : ℕ) → 0 ≤ k → k < i → ok (get_or xs k d) ≡ true) → Searched ok xs i
  passed zero h pass = refl
  passed (suc i) h pass =
      let so_far = passed i (omega arith) (λ k a l. pass k a (omega arith)) in
      rw (← add-one) (search_on ok xs i so_far d (omega arith) (pass i (omega arith) (omega arith)))

  -- from what a search through the numbers below n says, where Yes means that the test fails, and No that it passes
  pub first_found : (Yes No : ℕ → Type 0) → ((k : ℕ) → Yes k → ok (get_or xs k d) ≡ false)
      → ((k : ℕ) → No k → ok (get_or xs k d) ≡ true) → (n : ℕ) → n ≡ length xs → (r : Option ℕ)
      → MatchOption r ((k : ℕ) → 0 ≤ k → k < n → No k)
      (λ i. (0 ≤ i) × (i < n) × Yes i × ((k : ℕ) → 0 ≤ k → k < i → No k))
      → r ≡ first_bad ok 0 xs
  first_found Yes No fails passes n e None none =
      search_ended ok xs n (passed n (omega arith) (λ k a l. passes k (none k a l))) (omega arith)
  first_found Yes No fails passes n e (Some i) f =
      search_found ok xs i (passed i (omega arith) (λ k a l. passes k (f.3 k a l))) d (omega arith) (fails i f.2)
