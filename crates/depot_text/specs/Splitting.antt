-- The depot text of an input: its lines to the first `end=depot`, or all of them.
use Rattle.std.specs.Prelude.{ℕ, Bool, cond, List, [], ◌∷◌, ◌++◌, codes}
use Rattle.std.specs.Str.{bytes_eq}

abbrev pub ends_depot : List ℕ → Bool
ends_depot l = bytes_eq l (codes "end=depot" ++ (10 ∷ []))

abbrev pub depot_lines : List (List ℕ) → List (List ℕ)
depot_lines [] = []
depot_lines (l ∷ ls) = l ∷ cond (ends_depot l) [] (depot_lines ls)

abbrev pub lines_after : List (List ℕ) → List (List ℕ)
lines_after [] = []
lines_after (l ∷ ls) = cond (ends_depot l) ls (lines_after ls)
