-- What a bracket says of charging orders, over a process p at scale d.
use Rattle.std.specs.Prelude.{◌≡◌, ℕ, ◌+◌, ◌*◌, ◌^◌, ◌≤◌, [], Some, None}
use Rattle.process.specs.Process.{Process}
use Rattle.bounds.specs.Orders.{Order, hits}
use Rattle.sheets.specs.declared.figures.Bracket.{Bracket}

-- certainty
abbrev pub Q : ℕ
Q = 1000000

-- the hits of an order within N moves from the start; d ^ N is certainty
abbrev pub R : (d : ℕ) (p : Process) → Order p → ℕ → ℕ
R d p c N = hits d p c N 0 []

pub record BoundsHold (d : ℕ) (p : Process) (k : Bracket) : Type 0 where
  -- every order, within every number of moves
  pub cap_bounds : (c : Order p) (N : ℕ) → Q * R d p c N ≤ k.cap * d ^ N
  pub floor_bounds : (delay : ℕ) → k.delay ≡ Some delay → (c : Order p) (N : ℕ)
      → N * k.floor * d ^ N ≤ N * Q * R d p c N + Q * delay * d ^ N
  pub open_floor : k.delay ≡ None → k.floor ≡ 0
  -- some order, for every number of moves
  pub hope_bounds : (N : ℕ) → (c : Order p) × (N * k.hope * d ^ N ≤ N * Q * R d p c N + k.visits * d ^ N)
  pub risk_bounds : (N : ℕ) → (c : Order p) × (Q * R d p c N ≤ k.risk * d ^ N)
  -- no bound crosses another
  pub floor_under_risk : k.floor ≤ k.risk
  pub floor_under_cap : k.floor ≤ k.cap
  pub hope_under_cap : k.hope ≤ k.cap
