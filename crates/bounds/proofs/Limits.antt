-- No bound of one register contradicts another: over ever more moves the rest counts for nothing.
use Rattle.std.proofs.Common.{ℕ, suc, ◌+◌, ◌*◌, ◌^◌, ◌≤◌, inl, inr, mul-le-mul_left, le_of_mul-le-mul_right, arith}
use native.Mathlib.Nat.{one-le-pow}
use Rattle.std.proofs.lemmas.Bool.{cases_lt}
use Rattle.process.specs.Process.{Process, Formed}
use Rattle.bounds.specs.Orders.{Order}
use Rattle.bounds.specs.Holds.{CapHolds, FloorHolds, HopeHolds, RiskHolds}
use Rattle.bounds.proofs.Orders.{best-reached}

pub squeeze : (a b k P : ℕ) → 1 ≤ P → suc k * a * P ≤ suc k * b * P + k * P → a ≤ b
squeeze a b k P pos le =
    elim (cases_lt b a) [
      | inl l ↦
          let short : suc k * a ≤ suc k * b + k = le_of_mul-le-mul_right {k = P} (omega arith) pos in
          omega (arith, mul-le-mul_left (suc k) l)
      | inr l ↦ l
    ]

pub some_order : (d : ℕ) (p : Process) → Formed d p → Order p
some_order d p formed = (best-reached d p formed 0).0

module _ (Q d : ℕ) (p : Process) (formed : Formed d p) where
  pub floor_le_cap : (floor delay cap : ℕ) → FloorHolds Q d p floor delay → CapHolds Q d p cap → floor ≤ cap
  floor_le_cap floor delay cap floors caps =
      let N = suc (Q * delay) in
      let c = some_order d p formed in
      squeeze floor cap (Q * delay) (d ^ N) (one-le-pow N d formed.scale_positive)
      (omega (arith, floors c N, mul-le-mul_left N (caps c N)))

  pub floor_le_risk : (floor delay risk : ℕ) → FloorHolds Q d p floor delay → RiskHolds Q d p risk → floor ≤ risk
  floor_le_risk floor delay risk floors risks =
      let N = suc (Q * delay) in
      let r = risks N in
      squeeze floor risk (Q * delay) (d ^ N) (one-le-pow N d formed.scale_positive)
      (omega (arith, floors r.0 N, mul-le-mul_left N r.1))

  pub hope_le_cap : (hope visits cap : ℕ) → HopeHolds Q d p hope visits → CapHolds Q d p cap → hope ≤ cap
  hope_le_cap hope visits cap hopes caps =
      let N = suc visits in
      let r = hopes N in
      squeeze hope cap visits (d ^ N) (one-le-pow N d formed.scale_positive)
      (omega (arith, r.1, mul-le-mul_left N (caps r.0 N)))
