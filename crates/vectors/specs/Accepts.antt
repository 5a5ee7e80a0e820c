-- When a vector with one entry for each state is accepted, and what its refusals name.
use Rattle.std.specs.Prelude.{◌≡◌, ℕ, ◌+◌, ◌<◌, ◌≤◌, List, [], length, take, Err, Result, slice_index_or}
use Rattle.std.specs.List.{AllByRecursion as Every}
use Rattle.refusal.specs.Tellings.{Telling, at_vector}
use Rattle.refusal.specs.Tests.{FirstFailure}
use Rattle.process.specs.declared.place.Move.{Move}
use Rattle.process.specs.Process.{Process, joined}
use Rattle.process.specs.Queries.{moves_of}
use Rattle.bounds.specs.Vectors.{value_at, Options}
use Rattle.kinds.specs.declared.state_kind.StateKind.{StateKind}
use Rattle.kinds.specs.StateKinds.{limit_of, FairAt}

-- as many entries as states, each within its limit, and the inequality at every option of every state
pub record Accepted (k : StateKind) (d : ℕ) (p : Process) (z : List ℕ) : Type 0 where
  pub one_each : length z ≡ length p
  pub limited : Every (λ x. x ≤ limit_of k) z
  pub fair : Options p (FairAt k d (length p) z)

-- P of the option that has number o in the whole process, and of its state
abbrev pub AtOption : Process → (ℕ → List Move → Type 0) → ℕ → Type 0
AtOption p P o =
    (s k : ℕ) → s < length p → k < length (slice_index_or p s []) → length (joined (take s p)) + k ≡ o → P s (moves_of p s k)

-- first means first: the entry that 42 names, and the option that 43 names, fails, and none before it does
pub record FirstNamed (k : StateKind) (d : ℕ) (p : Process) (z : List ℕ) (r : Result ℕ Telling) : Type 0 where
  pub entry : (i : ℕ) → r ≡ Err (at_vector 42 i) → FirstFailure (length z) (λ j. value_at z j ≤ limit_of k) i
  pub option : (i : ℕ) → r ≡ Err (at_vector 43 i)
      → FirstFailure (length (joined p)) (AtOption p (FairAt k d (length p) z)) i
