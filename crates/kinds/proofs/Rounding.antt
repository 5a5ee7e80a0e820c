-- A sum rounded down and up.
use Rattle.std.proofs.Common.{ℕ, ◌≤◌, arith}
use native.Mathlib.Nat.{mul-div-le, lt-mul-div-succ}
use Rattle.std.proofs.lemmas.Grind.{div_ceil_times}
use Rattle.kinds.specs.declared.flow_kind.FlowKind.{FlowKind}
use Rattle.kinds.specs.declared.flow_kind.FlowKind.TheVariants.{Hope, Risk}
use Rattle.kinds.specs.FlowKinds.{rounded, Rounds}

pub rounds : (k : FlowKind) (g d : ℕ) → 1 ≤ d → Rounds k g d (rounded k g d)
rounds Hope g d pos = (mul-div-le g d, lt-mul-div-succ g {b = d} pos)
rounds Risk g d pos = let r = div_ceil_times g d pos in (omega (arith, r.0), omega (arith, r.1))
