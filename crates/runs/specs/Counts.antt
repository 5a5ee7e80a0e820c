-- The counts of a sheet.
use Rattle.std.specs.Prelude.{◌≤◌}
use Rattle.sheets.specs.declared.figures.Sheet.{Sheet}

-- passed ≤ taken ≤ 65,535
abbrev pub Counted : Sheet → Type 0
Counted s = (s.passed ≤ s.taken) × (s.taken ≤ 65535)
