-- The lists that a table holds, and the built-in depot.
use Rattle.std.specs.Prelude.{[], ◌∷◌}
use Rattle.process.specs.Process.{Process}
use Rattle.process.specs.Parts.{gone}
use Rattle.encoding.specs.Lists.{Lists}
use Rattle.encoding.specs.Lent.{lent}
use Rattle.table.specs.declared.Table.{Table}

abbrev pub lists_of : Table → Lists
lists_of t = lent t.lists

-- one state with one option, whose one move goes to the exit
abbrev pub empty_depot : Process
empty_depot = ((record { place = gone; weight = 1000 } ∷ []) ∷ []) ∷ []
