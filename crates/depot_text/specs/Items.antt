-- What a line means in a depot text.
use Rattle.std.specs.Prelude.{ℕ, cond, ◌&&◌, List, codes}
use Rattle.std.specs.Str.{bytes_eq}
use Rattle.lines.specs.Lines.{Said, says_word, says_number}
use Rattle.depot_text.specs.declared.item.Spelled.TheVariants as spelled
use Rattle.depot_text.specs.declared.item.Item.{Item}
use Rattle.depot_text.specs.declared.item.Item.TheVariants as item

abbrev pub word_item : List ℕ → List ℕ → Item
word_item key v =
    cond (bytes_eq key (codes "kind") && bytes_eq v (codes "depot")) item.Kind
    (cond (bytes_eq key (codes "to") && bytes_eq v (codes "target")) (item.To spelled.Target)
    (cond (bytes_eq key (codes "to") && bytes_eq v (codes "exit")) (item.To spelled.Exit)
    (cond (bytes_eq key (codes "end") && bytes_eq v (codes "depot")) item.End item.Other)))

abbrev pub number_item : List ℕ → ℕ → Item
number_item key n =
    cond (bytes_eq key (codes "states")) (item.States n)
    (cond (bytes_eq key (codes "state")) (item.State n)
    (cond (bytes_eq key (codes "option")) (item.Choice n)
    (cond (bytes_eq key (codes "to")) (item.To (spelled.State n))
    (cond (bytes_eq key (codes "weight")) (item.Weight n) item.Other))))

abbrev pub item_of : Said → Item
item_of (says_word key v) = word_item key v
item_of (says_number key v n) = number_item key n
