-- What the two numbers say of every order.
use Rattle.std.specs.Prelude.{◌≡◌, ℕ, ◌≤◌, []}
use Rattle.process.specs.Process.{Process}
use Rattle.bounds.specs.Orders.{Order, hits}

-- Within k moves from the start, some order has the greatest hits and some order the least, and all lie between.
pub record OverAllOrders (d : ℕ) (p : Process) (k greatest least : ℕ) : Type 0 where
  pub some_greatest : (c : Order p) × (hits d p c k 0 [] ≡ greatest)
  pub some_least : (c : Order p) × (hits d p c k 0 [] ≡ least)
  pub between : (c : Order p) → (least ≤ hits d p c k 0 []) × (hits d p c k 0 [] ≤ greatest)
