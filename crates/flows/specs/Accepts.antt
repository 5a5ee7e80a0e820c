-- When a vector with one entry for each option is accepted, and what its refusals name.
use Rattle.std.specs.Prelude.{◌≡◌, ℕ, ◌<◌, ◌≤◌, List, length, Err, Result}
use Rattle.std.specs.List.{AllByRecursion as Every}
use Rattle.refusal.specs.Tellings.{Telling, at_vector}
use Rattle.refusal.specs.Tests.{FirstFailure}
use Rattle.process.specs.Process.{Process, joined}
use Rattle.bounds.specs.Vectors.{value_at}
use Rattle.flows.specs.declared.flow.Flow.{Flow}
use Rattle.kinds.specs.declared.flow_kind.FlowKind.{FlowKind}
use Rattle.kinds.specs.FlowKinds.{BalancedAt}

-- as many entries as options, each within its limit, and the inequality at every state
pub record Accepted (k : FlowKind) (d : ℕ) (p : Process) (y : List ℕ) : Type 0 where
  pub one_each : length y ≡ length (joined p)
  pub limited : Every (λ x. x ≤ 1073741824) y
  pub balance : (s : ℕ) → s < length p → BalancedAt k d p y s

-- first means first: the entry that 42 names, and the state that 43 names, fails, and none before it does
pub record FirstNamed (k : FlowKind) (d : ℕ) (p : Process) (y : List ℕ) (r : Result Flow Telling) : Type 0 where
  pub entry : (i : ℕ) → r ≡ Err (at_vector 42 i) → FirstFailure (length y) (λ j. value_at y j ≤ 1073741824) i
  pub state : (i : ℕ) → r ≡ Err (at_vector 43 i) → FirstFailure (length p) (BalancedAt k d p y) i
