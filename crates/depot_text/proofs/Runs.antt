-- The machine over what lines mean, instead of over lines.
use Rattle.std.proofs.Common.{ℕ, ◌+◌, ◌^◌, ◌<◌, cond, List, [], ◌∷◌, Ok, Err, Result}
use Rattle.refusal.specs.Tellings.{Telling, at_text}
use Rattle.encoding.specs.Lists.{Lists}
use Rattle.passes.specs.Passes.{then}
use Rattle.depot_text.specs.declared.item.Spelled.TheVariants as spelled
use Rattle.depot_text.specs.declared.item.Item.{Item}
use Rattle.depot_text.specs.declared.item.Item.TheVariants as item
use Rattle.depot_text.specs.declared.progress.Rules.{Rules}
use Rattle.depot_text.specs.declared.progress.Progress.{Progress}
use Rattle.depot_text.specs.Machine.{at_end, on_item}
use Rattle.depot_text.specs.Loading.{depot, puts}

abbrev pub run : Rules → Progress → ℕ → List Item → Result Progress Telling
run r s at [] = cond (at_end s.phase) (Ok s) (Err (at_text 12 at))
run r s at (i ∷ is) = then (on_item r s at i) (λ s'. run r s' (at + 1) is)

abbrev pub onward : Result Progress Telling → Lists → (Progress → Lists) → Lists
onward (Ok s) old f = f s
onward (Err e) old f = old

-- what the items put into lists
abbrev pub wrote : Rules → Progress → ℕ → Lists → List Item → Lists
wrote r s at l [] = l
wrote r s at l (i ∷ is) = onward (on_item r s at i) l (λ s'. wrote r s' (at + 1) (puts (depot r s') l) is)

-- an item of a depot, whose numbers have 32 bits
abbrev pub ProperItem : Item → Type 0
ProperItem item.Kind = Unit {0}
ProperItem (item.States n) = n < 2 ^ 32
ProperItem (item.State n) = n < 2 ^ 32
ProperItem (item.Choice n) = n < 2 ^ 32
ProperItem (item.To (spelled.State n)) = n < 2 ^ 32
ProperItem (item.To spelled.Target) = Unit {0}
ProperItem (item.To spelled.Exit) = Unit {0}
ProperItem (item.Weight n) = n < 2 ^ 32
ProperItem item.End = Unit {0}
ProperItem item.Other = ⊥
