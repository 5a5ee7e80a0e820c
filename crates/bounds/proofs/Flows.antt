-- Hope and risk: one entry for each option.
use Rattle.std.proofs.Common.{◌≡◌, ℕ, zero, suc, ◌+◌, ◌*◌, ◌^◌, ◌≤◌, List, [], ◌∷◌, length, get_or, sum, refl, ap, mul-le-mul_left, pow-suc, arith}
use native.Mathlib.Nat.{le_of_mul-le-mul_left}
use Rattle.std.specs.List.{AllByRecursion as Every}
use Rattle.std.proofs.lemmas.List.{get_or_past}
use Rattle.std.proofs.ByRecursion.{All-from_get_or}
use Rattle.process.specs.declared.place.Move.{Move}
use Rattle.process.specs.Process.{Process, Formed, joined}
use Rattle.process.specs.Means.{mean, worth}
use Rattle.bounds.specs.Extremes.{best, worst}
use Rattle.bounds.specs.Vectors.{total, Options, flow, one_at, weight_to_target, inflow, own, gain, Hopes, Risks}
use Rattle.bounds.specs.Holds.{HopeHolds, RiskHolds}
use Rattle.bounds.proofs.Means.{worth_eq}
use Rattle.bounds.proofs.Sums.{flow_eq, flow_under, flow_states_under, flow_states_over, total_le, total-add, total-start, exchange}
use Rattle.bounds.proofs.Extremes.{greatest_above, least_below}
use Rattle.bounds.proofs.Orders.{formed-whole, best-rises, worst-rises, best_le, best-reached, worst-reached}

-- what a hope and a risk bound, with no order in hand
abbrev pub HopeBound : (Q d : ℕ) (p : Process) → ℕ → ℕ → Type 0
HopeBound Q d p hope visits = (N : ℕ) → N * hope * d ^ N ≤ N * Q * best d p N 0 + visits * d ^ N

abbrev pub RiskBound : (Q d : ℕ) (p : Process) → ℕ → Type 0
RiskBound Q d p risk = (N : ℕ) → Q * worst d p N 0 ≤ risk * d ^ N

-- One move: V before it, W after it, t at the target.
module _ (Q d : ℕ) (p : Process) (some : 1 ≤ length p) (y : List ℕ) where
  -- the y of the states, at the values V
  abbrev pub held : (ℕ → ℕ) → ℕ
  held V = total (length p) (λ s. own p y s * V s)

  flow_in : (V : ℕ → ℕ) (t : ℕ) → ((s : ℕ) → length p ≤ s → V s ≡ 0)
      → total (length p) (λ s. V s * inflow p y s) + t * gain p y ≡ flow (mean (worth V t)) y (joined p)
  flow_in V t past =
      omega (
        arith,
        exchange V y (joined p) (length p) past,
        flow_eq 1 1 t (mean (worth V t)) (mean (worth V 0)) weight_to_target
            (worth_eq 1 1 t V V (λ _. 0) t 0 1 (λ s. omega arith) (omega arith)) y (joined p),
      )

  pub hope_step : Hopes Q d p y → (V W : ℕ → ℕ) (t : ℕ) → ((s : ℕ) → length p ≤ s → V s ≡ 0)
      → Options p (λ s ms. mean (worth V t) ms ≤ W s) → d * held V + t * gain p y ≤ held W + d * Q * V 0
  hope_step hopes V W t past each =
      omega (
        arith,
        flow_in V t past,
        flow_states_under (mean (worth V t)) W p y each,
        total-start (length p) (d * Q) V some,
        total_le d 1 1 (length p) (λ s. own p y s * V s) (λ s. V s * inflow p y s) (λ s. V s * (d * Q * one_at 0 s))
            (λ s l. omega (arith, mul-le-mul_left (V s) (hopes s l))),
      )

  pub risk_step : Risks Q d p y → (V W : ℕ → ℕ) (t : ℕ) → ((s : ℕ) → length p ≤ s → V s ≡ 0)
      → Options p (λ s ms. W s ≤ mean (worth V t) ms) → held W + d * Q * V 0 ≤ d * held V + t * gain p y
  risk_step risks V W t past each =
      omega (
        arith,
        flow_in V t past,
        flow_states_over (mean (worth V t)) W p y each,
        total-start (length p) (d * Q) V some,
        total-add (length p) (λ s. V s * inflow p y s) (λ s. V s * (d * Q * one_at 0 s)),
        total_le 1 d 0 (length p) (λ s. V s * inflow p y s + V s * (d * Q * one_at 0 s)) (λ s. own p y s * V s) (λ _. 0)
            (λ s l. omega (arith, mul-le-mul_left (V s) (risks s l))),
      )

  -- the y of the states make no more than all of y
  pub held_le : (V : ℕ → ℕ) (k : ℕ) → ((s : ℕ) → V s ≤ k) → held V ≤ sum y * k
  held_le V k le =
      omega (
        arith,
        total_le 1 1 0 (length p) (λ s. own p y s * V s) (λ s. own p y s * k) (λ _. 0)
            (λ s l. omega (arith, mul-le-mul_left (own p y s) (le s))),
        flow_states_over (λ _. k) (λ _. k) p y (λ s l. all_same k (get_or p s [])),
        flow_under (λ _. k) k y (joined p) (all_same k (joined p)),
      )
    where
      all_same : (k : ℕ) (os : List (List Move)) → Every (λ (ms : List Move). k ≤ k) os
      all_same k [] = tt
      all_same k (ms ∷ os) = (omega arith, all_same k os)

pub best_past : (d : ℕ) (p : Process) (N s : ℕ) → length p ≤ s → best d p N s ≡ 0
best_past d p zero s l = refl
best_past d p (suc N) s l = rw (get_or_past p s [] l) refl

pub worst_past : (d : ℕ) (p : Process) (N s : ℕ) → length p ≤ s → worst d p N s ≡ 0
worst_past d p zero s l = refl
worst_past d p (suc N) s l = rw (get_or_past p s [] l) refl

module _ (Q d : ℕ) (p : Process) (formed : Formed d p) (y : List ℕ) where
  pub hope-count : Hopes Q d p y
      → (N : ℕ) → N * gain p y * d ^ N ≤ d * held Q d p formed.some_state y (best d p N) + d * N * Q * best d p N 0
  hope-count hopes zero = omega arith
  hope-count hopes (suc N) =
      rw pow-suc
      (omega (
        arith,
        mul-le-mul_left d (hope-count hopes N),
        mul-le-mul_left d (hope_step Q d p formed.some_state y hopes (best d p N) (best d p (suc N)) (d ^ N)
            (best_past d p N)
            (λ s l. All-from_get_or (λ ms. mean (worth (best d p N) (d ^ N)) ms ≤ best d p (suc N) s) (get_or p s []) []
            (λ i k. greatest_above (mean (worth (best d p N) (d ^ N))) (get_or p s []) i [] k))),
        mul-le-mul_left (d * suc N * Q) (best-rises d p N 0),
      ))

  -- the sum of y t, over N moves
  pub hope-sum : Hopes Q d p y → (N : ℕ) → N * gain p y * d ^ N ≤ d * (N * Q * best d p N 0 + sum y * d ^ N)
  hope-sum hopes N =
      omega (
        arith,
        hope-count hopes N,
        mul-le-mul_left d (held_le Q d p formed.some_state y (best d p N) (d ^ N) (best_le d p (formed-whole d p formed) N)),
      )

  pub risk-sum : Risks Q d p y → (N : ℕ) → d * Q * worst d p N 0 ≤ gain p y * d ^ N
  risk-sum risks N =
      omega (
        arith,
        risk_step Q d p formed.some_state y risks (worst d p N) (worst d p (suc N)) (d ^ N)
            (worst_past d p N)
            (λ s l. All-from_get_or (λ ms. worst d p (suc N) s ≤ mean (worth (worst d p N) (d ^ N)) ms) (get_or p s []) []
            (λ i k. least_below (mean (worth (worst d p N) (d ^ N))) (get_or p s []) i [] k)),
        total_le d 1 0 (length p) (λ s. own p y s * worst d p N s) (λ s. own p y s * worst d p (suc N) s) (λ _. 0)
            (λ s l. omega (arith, mul-le-mul_left (own p y s) (worst-rises d p N s))),
      )

  -- whole numbers of parts on the safe side of the sum
  pub hope_bound : Hopes Q d p y → (hope : ℕ) → d * hope ≤ gain p y → HopeBound Q d p hope (sum y)
  hope_bound hopes hope down N =
      le_of_mul-le-mul_left {k = d} (omega (arith, hope-sum hopes N, mul-le-mul_left (N * d ^ N) down)) formed.scale_positive

  pub risk_bound : Risks Q d p y → (risk : ℕ) → gain p y ≤ d * risk → RiskBound Q d p risk
  risk_bound risks risk up N =
      le_of_mul-le-mul_left {k = d} (omega (arith, risk-sum risks N, mul-le-mul_left (d ^ N) up)) formed.scale_positive

-- and some order for each number of moves
module _ (Q d : ℕ) (p : Process) (formed : Formed d p) where
  pub hope_holds : (hope visits : ℕ) → HopeBound Q d p hope visits → HopeHolds Q d p hope visits
  hope_holds hope visits bound N =
      let r = best-reached d p formed N in
      (r.0, omega (arith, bound N, ap (λ (x : ℕ). N * Q * x) (r.1 0)))

  pub risk_holds : (risk : ℕ) → RiskBound Q d p risk → RiskHolds Q d p risk
  risk_holds risk bound N =
      let r = worst-reached d p formed N in
      (r.0, omega (arith, bound N, ap (λ (x : ℕ). Q * x) (r.1 0)))
