-- What a bound says of orders, over any number N of moves.
use Rattle.std.specs.Prelude.{ℕ, ◌+◌, ◌*◌, ◌^◌, ◌≤◌, []}
use Rattle.process.specs.Process.{Process}
use Rattle.bounds.specs.Orders.{Order, hits}

abbrev pub CapHolds : (Q d : ℕ) (p : Process) → ℕ → Type 0
CapHolds Q d p cap = (c : Order p) (N : ℕ) → Q * hits d p c N 0 [] ≤ cap * d ^ N

abbrev pub FloorHolds : (Q d : ℕ) (p : Process) → ℕ → ℕ → Type 0
FloorHolds Q d p floor delay =
    (c : Order p) (N : ℕ) → N * floor * d ^ N ≤ N * Q * hits d p c N 0 [] + Q * delay * d ^ N

abbrev pub HopeHolds : (Q d : ℕ) (p : Process) → ℕ → ℕ → Type 0
HopeHolds Q d p hope visits =
    (N : ℕ) → (c : Order p) × (N * hope * d ^ N ≤ N * Q * hits d p c N 0 [] + visits * d ^ N)

abbrev pub RiskHolds : (Q d : ℕ) (p : Process) → ℕ → Type 0
RiskHolds Q d p risk = (N : ℕ) → (c : Order p) × (Q * hits d p c N 0 [] ≤ risk * d ^ N)
