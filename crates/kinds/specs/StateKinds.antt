-- What differs between the three kinds of vector with one entry for each state.
use Rattle.std.specs.Prelude.{ℕ, ◌+◌, ◌*◌, Bool, List, nat_le}
use Rattle.process.specs.declared.place.Move.{Move}
use Rattle.bounds.specs.Vectors.{value_at, weight_to_target, carried, CapAt, FloorAt, DelayAt}
use Rattle.kinds.specs.declared.state_kind.StateKind.{StateKind}
use Rattle.kinds.specs.declared.state_kind.StateKind.TheVariants.{Cap, Floor, Delay}

-- the largest entry
abbrev pub limit_of : StateKind → ℕ
limit_of Cap = 1000000
limit_of Floor = 1000000
limit_of Delay = 1073741824

-- what the target is worth
abbrev pub reward_of : StateKind → ℕ
reward_of Cap = 1000000
reward_of Floor = 1000000
reward_of Delay = 0

-- what an option is charged at scale d, whatever its moves
abbrev pub charge_of : StateKind → ℕ → ℕ
charge_of Cap d = 0
charge_of Floor d = 0
charge_of Delay d = d

-- how d times the own entry compares with what an option gives
abbrev pub fair : StateKind → ℕ → ℕ → Bool
fair Cap own given = nat_le given own
fair Floor own given = nat_le own given
fair Delay own given = nat_le given own

-- the test of the inequality at an option of state s, where there are n states
abbrev pub holds_at : StateKind → (d n : ℕ) → List ℕ → ℕ → List Move → Bool
holds_at k d n z s ms = fair k (d * value_at z s) (charge_of k d + (reward_of k * weight_to_target ms + carried n z ms))

-- the inequality itself
abbrev pub FairAt : StateKind → (d n : ℕ) → List ℕ → ℕ → List Move → Type 0
FairAt Cap d n z s ms = CapAt 1000000 d n z s ms
FairAt Floor d n z s ms = FloorAt 1000000 d n z s ms
FairAt Delay d n z s ms = DelayAt d n z s ms
