-- How a sheet counts the vectors that are taken, and those that pass.
use Rattle.std.specs.Prelude.{ℕ, ◌+◌, cond, Some, None, Option, Result, nat_lt}
use Rattle.refusal.specs.Tellings.{Telling, at_register}
use Rattle.refusal.specs.Tests.{unless}
use Rattle.sheets.specs.declared.figures.Bracket.{Bracket}
use Rattle.sheets.specs.declared.figures.Sheet.{Sheet}

-- 51: a full sheet takes no vector
abbrev pub full : Sheet → Option ℕ
full s = cond (nat_lt s.taken 65535) None (Some 0)

-- a result, unless the sheet is full
abbrev pub unless_full : {B : Type 0} → Sheet → Result B Telling → Result B Telling
unless_full s found = unless (at_register 51) (full s) found

-- one more taken, unless the sheet is full
abbrev pub one_taken : Sheet → Sheet
one_taken s =
    cond (nat_lt s.taken 65535) (record { bracket = s.bracket; taken = s.taken + 1; passed = s.passed }) s

-- one more passed, with what the bracket has become
abbrev pub one_passed : Bracket → Sheet → Sheet
one_passed k s = record { bracket = k; taken = s.taken; passed = s.passed + 1 }
