-- The best and the worst hits are those of some order, and bound those of every order.
use Rattle.std.proofs.Common.{◌≡◌, ℕ, []}
use Rattle.process.specs.Process.{Process, Formed}
use Rattle.bounds.specs.Extremes.{best, worst}
use Rattle.bounds.proofs.Orders.{best-reached, worst-reached, hits_under_best, hits_above_worst}
use Rattle.lookahead.specs.Orders.{OverAllOrders}

pub over_all_orders : (d : ℕ) (p : Process) → Formed d p → (k greatest least : ℕ)
    → greatest ≡ best d p k 0 → least ≡ worst d p k 0 → OverAllOrders d p k greatest least
over_all_orders d p formed k greatest least g l =
    let upper = best-reached d p formed k in
    let lower = worst-reached d p formed k in
    rw (g, l)
    record {
      some_greatest = (upper.0, upper.1 0);
      some_least = (lower.0, lower.1 0);
      between = λ c. (hits_above_worst d p c k 0 [], hits_under_best d p c k 0 []);
    }
