-- Numbers written over the front of a lent list; those past them stay.
use Rattle.std.specs.Prelude.{ℕ, List, ◌++◌, length, drop}

abbrev pub over : List ℕ → List ℕ → List ℕ
over xs old = xs ++ drop (length xs) old
