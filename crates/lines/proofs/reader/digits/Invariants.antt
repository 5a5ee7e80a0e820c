-- What is left is read on after the number so far.
use Rattle.std.proofs.Common.{◌≡◌, drop}
use Rattle.lines.specs.Lines.{digits_on}
use Rattle.lines.proofs.reader.digits.Given as goal

abbrev pub invariant-loop-b : goal.invariant-loop-b
invariant-loop-b l = digits_on l.n (drop l.b-index l.s) ≡ digits_on 0 l.s
