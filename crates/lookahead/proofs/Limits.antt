-- The turn of chance: sums over the moves of an option, and that they fit.
use Rattle.std.proofs.Common.{◌≡◌, ℕ, suc, ◌^◌, ◌<◌, ◌≤◌, [], length, get_or, take, ap, subst, inl, inr, le_refl, mul-le-mul_left, pow-suc, arith}
use native.Mathlib.Nat.{pow-le-pow_right}
use Rattle.std.proofs.ByRecursion.{All-get_or}
use Rattle.std.proofs.lemmas.List.{get_or_past, take_all}
use Rattle.std.proofs.lemmas.Bool.{cases_lt}
use Rattle.process.specs.Process.{Process, Formed, weights}
use Rattle.process.specs.Queries.{moves_of}
use Rattle.process.specs.Means.{worth}
use Rattle.process.proofs.Walks.{mean-take}
use Rattle.bounds.proofs.Means.{worth-weights}
use Rattle.bounds.proofs.Orders.{anywhere, formed-whole, best_le, best-reached, hits_under_best, hits_above_worst}
use Rattle.lookahead.specs.declared.turns.Side.{Side}
use Rattle.lookahead.specs.declared.turns.Side.TheVariants.{Greatest, Least}
use Rattle.lookahead.specs.Sides.{outlook, mean_outlook}

pub power_fits : (k : ℕ) → k ≤ 6 → 1000 ^ k < 2 ^ 64
power_fits k h =
    let z : 0 < 1000 = omega arith in omega (arith, pow-le-pow_right {n = 1000} z {i = k} {j = 6} h)

module _ (d : ℕ) (p : Process) (formed : Formed d p) where
  -- the least is at most the greatest, with the hits of some order between them
  outlook_le : (side : Side) (k s : ℕ) → outlook side d p k s ≤ d ^ k
  outlook_le Greatest k s = best_le d p (formed-whole d p formed) k s
  outlook_le Least k s =
      let c = (best-reached d p formed k).0 in
      omega (
        arith,
        hits_above_worst d p c k s [],
        hits_under_best d p c k s [],
        best_le d p (formed-whole d p formed) k s,
      )

  -- the scale, or nothing where the option is missing
  weights_le : (s o : ℕ) → weights (moves_of p s o) ≤ d
  weights_le s o =
      elim (cases_lt o (length (get_or p s []))) [
        | inl l ↦
            omega (
              arith,
              All-get_or (λ ms. weights ms ≡ d) (get_or p s []) o [] l
                  (anywhere p (λ s ms. weights ms ≡ d) (formed-whole d p formed) s),
            )
        | inr l ↦ omega (arith, ap weights (get_or_past (get_or p s []) o [] l))
      ]

  -- d ^ k times the weights bounds the sum
  sum_le : (side : Side) (k s o i : ℕ) → mean_outlook side d p k (take i (moves_of p s o)) ≤ d ^ suc k
  sum_le side k s o i =
      rw (pow-suc d k)
      (omega (
        arith,
        mean-take (worth (outlook side d p k) (d ^ k)) (moves_of p s o) i,
        worth-weights (d ^ k) (d ^ k) (outlook side d p k) (outlook_le side k) (omega arith) (moves_of p s o),
        mul-le-mul_left (d ^ k) (weights_le s o),
      ))

pub sum_fits : (p : Process) → Formed 1000 p → (side : Side) (k s o i : ℕ) → k ≤ 5
    → mean_outlook side 1000 p k (take i (moves_of p s o)) < 2 ^ 64
sum_fits p formed side k s o i h = omega (arith, sum_le 1000 p formed side k s o i, power_fits (suc k) (omega arith))

-- the same of all the moves
pub whole_fits : (p : Process) → Formed 1000 p → (side : Side) (k s o : ℕ) → k ≤ 5
    → mean_outlook side 1000 p k (moves_of p s o) < 2 ^ 64
whole_fits p formed side k s o h =
    let ms = moves_of p s o in
    subst (λ xs. mean_outlook side 1000 p k xs < 2 ^ 64) (take_all (length ms) ms (le_refl (length ms)))
    (sum_fits p formed side k s o (length ms) h)
