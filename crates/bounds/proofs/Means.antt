-- The laws of `mean`: what holds of the values at each place holds of their means.
use Rattle.std.proofs.Common.{◌≡◌, ℕ, ◌+◌, ◌*◌, ◌≤◌, Bool, List, [], ◌∷◌, ap, inl, inr, mul-le-mul_left, arith}
use Rattle.process.specs.declared.place.Place.{Place}
use Rattle.process.specs.declared.place.Place.TheVariants.{State, End as Ends}
use Rattle.std.proofs.lemmas.Bool.{cases_Bool}
use Rattle.process.specs.declared.place.End.{End}
use Rattle.process.specs.declared.place.Move.{Move}
use Rattle.process.specs.Process.{weights}
use Rattle.process.specs.Means.{mean, is_target, paid, valued, worth}

pub mean_le : (a b c : ℕ) (f g h : Place → ℕ) → ((q : Place) → a * f q ≤ b * g q + c * h q) → (ms : List Move)
    → a * mean f ms ≤ b * mean g ms + c * mean h ms
mean_le a b c f g h le [] = omega arith
mean_le a b c f g h le (m ∷ ms) =
    omega (arith, mul-le-mul_left m.weight (le m.place), mean_le a b c f g h le ms)

pub mean_eq : (a b c : ℕ) (f g h : Place → ℕ) → ((q : Place) → a * f q ≡ b * g q + c * h q) → (ms : List Move)
    → a * mean f ms ≡ b * mean g ms + c * mean h ms
mean_eq a b c f g h eq [] = omega arith
mean_eq a b c f g h eq (m ∷ ms) =
    omega (arith, ap (λ (x : ℕ). m.weight * x) (eq m.place), mean_eq a b c f g h eq ms)

-- the same for values that are told by state and by end
module _ (goal : End → Bool) where
  pub paid_le : (a b c x y z : ℕ) → a * x ≤ b * y + c * z → (q : End) → a * paid goal x q ≤ b * paid goal y q + c * paid goal z q
  paid_le a b c x y z le q = elim (cases_Bool (goal q)) [ inl h ↦ rw h le | inr h ↦ rw h (omega arith) ]

  pub valued_le : (a b c : ℕ) (f g h : ℕ → ℕ) (x y z : ℕ) → ((s : ℕ) → a * f s ≤ b * g s + c * h s) → a * x ≤ b * y + c * z
      → (ms : List Move)
      → a * mean (valued f (paid goal x)) ms ≤ b * mean (valued g (paid goal y)) ms + c * mean (valued h (paid goal z)) ms
  valued_le a b c f g h x y z states target =
      mean_le a b c (valued f (paid goal x)) (valued g (paid goal y)) (valued h (paid goal z))
      (elim [ State s ↦ states s | Ends q ↦ paid_le a b c x y z target q ])

  pub valued_eq : (a b c : ℕ) (f g h : ℕ → ℕ) (x y z : ℕ) → ((s : ℕ) → a * f s ≡ b * g s + c * h s) → a * x ≡ b * y + c * z
      → (ms : List Move)
      → a * mean (valued f (paid goal x)) ms ≡ b * mean (valued g (paid goal y)) ms + c * mean (valued h (paid goal z)) ms
  valued_eq a b c f g h x y z states target =
      mean_eq a b c (valued f (paid goal x)) (valued g (paid goal y)) (valued h (paid goal z))
      (elim [
        | State s ↦ states s
        | Ends q ↦ elim (cases_Bool (goal q)) [ inl h ↦ rw h target | inr h ↦ rw h (omega arith) ]
      ])

  -- with one term on the right
  pub valued_under : (a b : ℕ) (f g : ℕ → ℕ) (x y : ℕ) → ((s : ℕ) → a * f s ≤ b * g s) → a * x ≤ b * y
      → (ms : List Move) → a * mean (valued f (paid goal x)) ms ≤ b * mean (valued g (paid goal y)) ms
  valued_under a b f g x y states target ms =
      omega (arith, valued_le a b 0 f g g x y y (λ s. omega (arith, states s)) (omega arith) ms)

-- and of the target
pub worth_le : (a b c : ℕ) (f g h : ℕ → ℕ) (x y z : ℕ) → ((s : ℕ) → a * f s ≤ b * g s + c * h s) → a * x ≤ b * y + c * z
    → (ms : List Move) → a * mean (worth f x) ms ≤ b * mean (worth g y) ms + c * mean (worth h z) ms
worth_le = valued_le is_target

pub worth_eq : (a b c : ℕ) (f g h : ℕ → ℕ) (x y z : ℕ) → ((s : ℕ) → a * f s ≡ b * g s + c * h s) → a * x ≡ b * y + c * z
    → (ms : List Move) → a * mean (worth f x) ms ≡ b * mean (worth g y) ms + c * mean (worth h z) ms
worth_eq = valued_eq is_target

pub worth_under : (a b : ℕ) (f g : ℕ → ℕ) (x y : ℕ) → ((s : ℕ) → a * f s ≤ b * g s) → a * x ≤ b * y
    → (ms : List Move) → a * mean (worth f x) ms ≤ b * mean (worth g y) ms
worth_under = valued_under is_target

pub mean_all : (k : ℕ) (ms : List Move) → mean (λ _. k) ms ≡ k * weights ms
mean_all k [] = omega arith
mean_all k (m ∷ ms) = omega (arith, mean_all k ms)

pub worth-weights : (k x : ℕ) (f : ℕ → ℕ) → ((s : ℕ) → f s ≤ k) → x ≤ k → (ms : List Move)
    → mean (worth f x) ms ≤ k * weights ms
worth-weights k x f states target ms =
    omega (
      arith,
      mean_all k ms,
      mean_le 1 1 0 (worth f x) (λ _. k) (λ _. k)
          (elim [
            | State s ↦ omega (arith, states s)
            | Ends q ↦ elim (cases_Bool (is_target q)) [ inl h ↦ rw h (omega arith) | inr h ↦ rw h (omega arith) ]
          ]) ms,
    )
