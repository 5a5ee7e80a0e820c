-- What the inequalities of cap, floor and delay give of any play.
use Rattle.std.proofs.Common.{ℕ, zero, suc, ◌+◌, ◌*◌, ◌^◌, ◌≤◌, Bool, List, ◌∷◌, mul-le-mul_left, pow-suc, arith}
use native.Mathlib.Nat.{pow-zero}
use Rattle.process.specs.declared.place.End.{End}
use Rattle.process.specs.Process.{weights}
use Rattle.process.specs.Means.{mean, paid, valued, worth}
use Rattle.bounds.specs.Orders.{Play, arrived_to, arrived}
use Rattle.bounds.proofs.Means.{valued_under, worth_le, worth_under, worth-weights}

-- of e ^ N, the weight that is still in a state after N moves
abbrev pub staying : Play → ℕ → ℕ → List ℕ → ℕ
staying play zero s h = 1
staying play (suc N) s h = mean (worth (λ s'. staying play N s' (s ∷ h)) 0) (play s h)

module _ (e : ℕ) (play : Play) where
  pub arrived-cap : (goal : End → Bool) (Q : ℕ) (z : ℕ → ℕ)
      → ((s : ℕ) (h : List ℕ) → mean (valued z (paid goal Q)) (play s h) ≤ e * z s)
      → (N s : ℕ) (h : List ℕ) → Q * arrived_to goal e play N s h ≤ z s * e ^ N
  arrived-cap goal Q z step zero s h = omega arith
  arrived-cap goal Q z step (suc N) s h =
      rw pow-suc
      (omega (
        arith,
        mul-le-mul_left (e ^ N) (step s h),
        valued_under goal Q (e ^ N) (λ s'. arrived_to goal e play N s' (s ∷ h)) z (e ^ N) Q
            (λ s'. omega (arith, arrived-cap goal Q z step N s' (s ∷ h))) (omega arith) (play s h),
      ))

  pub arrived_or_staying : (Q : ℕ) (z : ℕ → ℕ) → ((s : ℕ) → z s ≤ Q)
      → ((s : ℕ) (h : List ℕ) → e * z s ≤ mean (worth z Q) (play s h))
      → (N s : ℕ) (h : List ℕ) → z s * e ^ N ≤ Q * arrived e play N s h + Q * staying play N s h
  arrived_or_staying Q z limit step zero s h = rw pow-zero (omega (arith, limit s))
  arrived_or_staying Q z limit step (suc N) s h =
      rw pow-suc
      (omega (
        arith,
        mul-le-mul_left (e ^ N) (step s h),
        worth_le (e ^ N) Q Q z (λ s'. arrived e play N s' (s ∷ h)) (λ s'. staying play N s' (s ∷ h)) Q (e ^ N) 0
            (λ s'. omega (arith, arrived_or_staying Q z limit step N s' (s ∷ h))) (omega arith) (play s h),
      ))

  module _ (whole : (s : ℕ) (h : List ℕ) → weights (play s h) ≤ e) where
    pub staying_le : (N s : ℕ) (h : List ℕ) → staying play N s h ≤ e ^ N
    staying_le zero s h = rw pow-zero (omega arith)
    staying_le (suc N) s h =
        rw pow-suc
        (omega (
          arith,
          mul-le-mul_left (e ^ N) (whole s h),
          worth-weights (e ^ N) 0 (λ s'. staying play N s' (s ∷ h)) (λ s'. staying_le N s' (s ∷ h)) (omega arith)
              (play s h),
        ))

    pub staying_delay : (v : ℕ → ℕ)
        → ((s : ℕ) (h : List ℕ) → weights (play s h) + mean (worth v 0) (play s h) ≤ e * v s)
        → (N s : ℕ) (h : List ℕ) → N * staying play N s h ≤ v s * e ^ N
    staying_delay v step zero s h = omega arith
    staying_delay v step (suc N) s h =
        rw pow-suc
        (omega (
          arith,
          mul-le-mul_left (e ^ N) (step s h),
          worth_under N (e ^ N) (λ s'. staying play N s' (s ∷ h)) v 0 0
              (λ s'. omega (arith, staying_delay v step N s' (s ∷ h))) (omega arith) (play s h),
          worth-weights (e ^ N) 0 (λ s'. staying play N s' (s ∷ h)) (λ s'. staying_le N s' (s ∷ h)) (omega arith)
              (play s h),
        ))

    pub arrived-floor : (Q : ℕ) (z v : ℕ → ℕ) → ((s : ℕ) → z s ≤ Q)
        → ((s : ℕ) (h : List ℕ) → e * z s ≤ mean (worth z Q) (play s h))
        → ((s : ℕ) (h : List ℕ) → weights (play s h) + mean (worth v 0) (play s h) ≤ e * v s)
        → (N s : ℕ) (h : List ℕ) → N * z s * e ^ N ≤ N * Q * arrived e play N s h + Q * v s * e ^ N
    arrived-floor Q z v limit rises falls N s h =
        omega (
          arith,
          mul-le-mul_left N (arrived_or_staying Q z limit rises N s h),
          mul-le-mul_left Q (staying_delay v falls N s h),
        )
