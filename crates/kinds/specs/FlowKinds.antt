-- What differs between a hope and a risk, the vectors with one entry for each option.
use Rattle.std.specs.Prelude.{ℕ, ◌+◌, ◌*◌, ◌/◌, ◌<◌, ◌≤◌, Bool, List, nat_le}
use Rattle.std.specs.Int.{div_ceil}
use Rattle.process.specs.Process.{Process}
use Rattle.bounds.specs.Vectors.{one_at, inflow, own, HopeAt, RiskAt}
use Rattle.kinds.specs.declared.flow_kind.FlowKind.{FlowKind}
use Rattle.kinds.specs.declared.flow_kind.FlowKind.TheVariants.{Hope, Risk}

-- how d times what a state spends compares with what it has
abbrev pub balanced : FlowKind → ℕ → ℕ → Bool
balanced Hope spent has = nat_le spent has
balanced Risk spent has = nat_le has spent

-- the test of the inequality of a state; the start is granted d times a million
abbrev pub state_holds : FlowKind → ℕ → Process → List ℕ → ℕ → Bool
state_holds k d p y s = balanced k (d * own p y s) (inflow p y s + d * 1000000 * one_at 0 s)

-- the inequality itself
abbrev pub BalancedAt : FlowKind → ℕ → Process → List ℕ → ℕ → Type 0
BalancedAt Hope d p y s = HopeAt 1000000 d p y s
BalancedAt Risk d p y s = RiskAt 1000000 d p y s

-- the bound of a sum at scale d
abbrev pub rounded : FlowKind → ℕ → ℕ → ℕ
rounded Hope g d = g / d
rounded Risk g d = div_ceil g d

-- of the whole numbers, the greatest that times d is not above the sum, or the least that is not below it
abbrev pub Rounds : FlowKind → ℕ → ℕ → ℕ → Type 0
Rounds Hope g d r = (d * r ≤ g) × (g < d * (r + 1))
Rounds Risk g d r = (g ≤ d * r) × (d * r < g + d)
