-- Spelling can be undone: a text has one list of items, and a list of items spells one depot.
use Rattle.std.proofs.Common.{◌≡◌, ℕ, ◌+◌, List, [], ◌∷◌, ◌++◌, map, Some, None, Option, sym, refl, ap, ◌∙◌, append_assoc, append-nil}
use Rattle.std.specs.List.{flat_map as written_all, AllByRecursion as Every}
use Rattle.lines.specs.Lines.{Said, parsed}
use Rattle.lines.specs.Writing.{written}
use Rattle.passes.specs.Texts.{lines}
use Rattle.depot_text.specs.declared.item.Item.{Item}
use Rattle.depot_text.specs.declared.item.Item.TheVariants as item
use Rattle.depot_text.specs.Items.{item_of}
use Rattle.depot_text.specs.Spelling.{SpelledMove, Tree, says, move_items, option_items, state_items, depot_items}
use Rattle.depot_text.proofs.Runs.{ProperItem}
use Rattle.depot_text.proofs.Texts.{means_says, line, parsed_line, lines_items}

-- items out of their lines
abbrev meant : Option Said → Item
meant None = item.Other
meant (Some s) = item_of s

abbrev items_in : List ℕ → List Item
items_in t = map (λ l. meant (parsed l)) (lines t)

undo_lines : (is : List Item) → Every ProperItem is → map (λ l. meant (parsed l)) (map line is) ≡ is
undo_lines [] h = refl
undo_lines (i ∷ is) h = λ j. (ap meant (parsed_line i h.0) ∙ means_says i h.0) j ∷ undo_lines is h.1 j

undo_text : (is : List Item) → Every ProperItem is → items_in (written_all (λ i. written (says i)) is) ≡ is
undo_text is h = ap (map (λ l. meant (parsed l))) (lines_items is h) ∙ undo_lines is h

pub one_spelling : (is js : List Item) → Every ProperItem is → Every ProperItem js
    → written_all (λ i. written (says i)) is ≡ written_all (λ i. written (says i)) js → is ≡ js
one_spelling is js hi hj e = sym (undo_text is hi) ∙ ap items_in e ∙ undo_text js hj

-- a depot out of its items, from the last to the first: the weight, moves, options and states that stand open
record Undone : Type 0 where
  weight : ℕ
  moves : List SpelledMove
  options : List (List SpelledMove)
  states : Tree

abbrev nothing : Undone
nothing = record { weight = 0; moves = []; options = []; states = [] }

abbrev with_state : Undone → Undone
with_state u = record { weight = 0; moves = []; options = []; states = u.options ∷ u.states }

abbrev with_option : Undone → Undone
with_option u = record { weight = 0; moves = []; options = u.moves ∷ u.options; states = u.states }

abbrev undone : List Item → Undone
undone [] = nothing
undone (item.Kind ∷ is) = undone is
undone (item.States n ∷ is) = undone is
undone (item.State k ∷ is) = with_state (undone is)
undone (item.Choice j ∷ is) = with_option (undone is)
undone (item.To p ∷ is) =
    record {
      weight = 0;
      moves = record { to = p; weight = (undone is).weight } ∷ (undone is).moves;
      options = (undone is).options;
      states = (undone is).states;
    }
undone (item.Weight w ∷ is) =
    record {
      weight = w;
      moves = (undone is).moves;
      options = (undone is).options;
      states = (undone is).states;
    }
undone (item.End ∷ is) = nothing
undone (item.Other ∷ is) = undone is

undo_moves : (ms : List SpelledMove) (rest : List Item)
    → ((undone (move_items ms ++ rest)).moves ≡ ms ++ (undone rest).moves)
    × ((undone (move_items ms ++ rest)).options ≡ (undone rest).options)
    × ((undone (move_items ms ++ rest)).states ≡ (undone rest).states)
undo_moves [] rest = (refl, refl, refl)
undo_moves (m ∷ ms) rest = let q = undo_moves ms rest in (ap (λ l. m ∷ l) q.0, q.1, q.2)

undo_options : (j : ℕ) (os : List (List SpelledMove)) (rest : List Item) → (undone rest).moves ≡ []
    → ((undone (option_items j os ++ rest)).moves ≡ [])
    × ((undone (option_items j os ++ rest)).options ≡ os ++ (undone rest).options)
    × ((undone (option_items j os ++ rest)).states ≡ (undone rest).states)
undo_options j [] rest e = (e, refl, refl)
undo_options j (ms ∷ os) rest e =
    let same = append_assoc (move_items ms) (option_items (j + 1) os) rest in
    let q = undo_options (j + 1) os rest e in
    let m = undo_moves ms (option_items (j + 1) os ++ rest) in
    let own : (undone (move_items ms ++ (option_items (j + 1) os ++ rest))).moves ≡ ms
    = m.0 ∙ ap (λ z. ms ++ z) q.0 ∙ append-nil ms in (
      refl,
      ap (λ l. (undone l).moves ∷ (undone l).options) same ∙ (λ i. own i ∷ (m.1 ∙ q.1) i),
      ap (λ l. (undone l).states) same ∙ m.2 ∙ q.2,
    )

undo_states : (k : ℕ) (t : Tree) (rest : List Item) → (undone rest).moves ≡ [] → (undone rest).options ≡ []
    → ((undone (state_items k t ++ rest)).moves ≡ [])
    × ((undone (state_items k t ++ rest)).options ≡ [])
    × ((undone (state_items k t ++ rest)).states ≡ t ++ (undone rest).states)
undo_states k [] rest e f = (e, f, refl)
undo_states k (os ∷ t) rest e f =
    let same = append_assoc (option_items 0 os) (state_items (k + 1) t) rest in
    let q = undo_states (k + 1) t rest e f in
    let m = undo_options 0 os (state_items (k + 1) t ++ rest) q.0 in
    let own : (undone (option_items 0 os ++ (state_items (k + 1) t ++ rest))).options ≡ os
    = m.1 ∙ ap (λ z. os ++ z) q.1 ∙ append-nil os in
    (refl, refl, ap (λ l. (undone l).options ∷ (undone l).states) same ∙ (λ i. own i ∷ (m.2 ∙ q.2) i))

undo_depot : (t : Tree) → (undone (depot_items t)).states ≡ t
undo_depot t = (undo_states 0 t (item.End ∷ []) refl refl).2 ∙ append-nil t

pub one_tree : (t u : Tree) → depot_items t ≡ depot_items u → t ≡ u
one_tree t u e = sym (undo_depot t) ∙ ap (λ is. (undone is).states) e ∙ undo_depot u
