-- Tests in their order: the first place that fails, and the refusal that names it.
use Rattle.std.specs.Prelude.{ℕ, ◌+◌, ◌<◌, Bool, cond, ◌&&◌, List, [], ◌∷◌, Some, None, Err, Option, Result, nat_le}
use Rattle.refusal.specs.Tellings.{Telling}

abbrev pub between : ℕ → ℕ → ℕ → Bool
between low high n = nat_le low n && nat_le n high

-- the first of a list that fails its test, the head of the list being number n
abbrev pub first_bad : {A : Type 0} → (A → Bool) → ℕ → List A → Option ℕ
first_bad ok n [] = None
first_bad ok n (x ∷ xs) = cond (ok x) (first_bad ok (n + 1) xs) (Some n)

-- the first of several tests that fails
abbrev pub first_false : List Bool → Option ℕ
first_false tests = first_bad (λ t. t) 0 tests

abbrev pub or_else : Option ℕ → Option ℕ → Option ℕ
or_else None next = next
or_else (Some i) next = Some i

-- i is the first of the numbers below n at which P does not hold
pub record FirstFailure (n : ℕ) (P : ℕ → Type 0) (i : ℕ) : Type 0 where
  pub within : i < n
  pub fails : P i → ⊥
  pub before : (j : ℕ) → j < i → P j

-- refused at a bad place, if there is one, and else what comes next
abbrev pub unless : {A : Type 0} → (ℕ → Telling) → Option ℕ → Result A Telling → Result A Telling
unless refused None next = next
unless refused (Some i) next = Err (refused i)
