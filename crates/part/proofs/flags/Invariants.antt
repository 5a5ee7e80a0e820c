use Rattle.std.proofs.Common.{◌≡◌, ◌-◌, length, take}
use Rattle.part.proofs.Filled.{flags_of}
use Rattle.part.proofs.flags.Given as goal

abbrev pub invariant-loop-i : goal.invariant-loop-i
invariant-loop-i l = (l.set ≡ flags_of (take l.i l.marks) (4096 - l.i)) × (length l.set ≡ 4096)
