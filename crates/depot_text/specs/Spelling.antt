-- Depot text in terms of depots: how a depot is spelled, and that exactly the spelled depots are loaded.
use Rattle.std.specs.Prelude.{◌≡◌, ℕ, ◌+◌, ◌*◌, ◌≤◌, false, List, [], ◌∷◌, ◌++◌, map, length, is_ok, Ok, codes, decimal, Result}
use Rattle.std.specs.List.{flat_map as written_all}
use Rattle.refusal.specs.Tellings.{Telling}
use Rattle.process.specs.declared.place.Move.{Move}
use Rattle.process.specs.declared.size.Size.{Size}
use Rattle.process.specs.Process.{Process, joined, Formed}
use Rattle.encoding.specs.Lists.{Lists, lists}
use Rattle.encoding.specs.Writing.{encoding}
use Rattle.lines.specs.Lines.{Said, says_word, says_number}
use Rattle.lines.specs.Writing.{written}
use Rattle.passes.specs.Over.{over}
use Rattle.depot_text.specs.declared.item.Spelled.{Spelled}
use Rattle.depot_text.specs.declared.item.Spelled.TheVariants as spelled
use Rattle.depot_text.specs.declared.item.Item.{Item}
use Rattle.depot_text.specs.declared.item.Item.TheVariants as item
use Rattle.depot_text.specs.Loading.{place_of}

-- a depot as a text spells it: places by their spelling
pub record SpelledMove : Type 0 where
  pub to : Spelled
  pub weight : ℕ

abbrev pub Tree : Type 0
Tree = List (List (List SpelledMove))

abbrev pub move_of : SpelledMove → Move
move_of m = record { place = place_of m.to; weight = m.weight }

-- the process that it means
abbrev pub process_of : Tree → Process
process_of t = map (map (map move_of)) t

-- what a line says for each item
abbrev pub says : Item → Said
says item.Kind = says_word (codes "kind") (codes "depot")
says (item.States n) = says_number (codes "states") (decimal n) n
says (item.State k) = says_number (codes "state") (decimal k) k
says (item.Choice j) = says_number (codes "option") (decimal j) j
says (item.To (spelled.State k)) = says_number (codes "to") (decimal k) k
says (item.To spelled.Target) = says_word (codes "to") (codes "target")
says (item.To spelled.Exit) = says_word (codes "to") (codes "exit")
says (item.Weight w) = says_number (codes "weight") (decimal w) w
says item.End = says_word (codes "end") (codes "depot")
says item.Other = says_word [] []

-- the lines of a depot, in their order
abbrev pub move_items : List SpelledMove → List Item
move_items [] = []
move_items (m ∷ ms) = item.To m.to ∷ (item.Weight m.weight ∷ move_items ms)

abbrev pub option_items : ℕ → List (List SpelledMove) → List Item
option_items j [] = []
option_items j (ms ∷ os) = item.Choice j ∷ (move_items ms ++ option_items (j + 1) os)

abbrev pub state_items : ℕ → Tree → List Item
state_items k [] = []
state_items k (os ∷ t) = item.State k ∷ (option_items 0 os ++ state_items (k + 1) t)

abbrev pub depot_items : Tree → List Item
depot_items t = item.Kind ∷ (item.States (length t) ∷ (state_items 0 t ++ (item.End ∷ [])))

abbrev pub render : Tree → List ℕ
render t = written_all (λ i. written (says i)) (depot_items t)

abbrev pub size_of : Tree → Size
size_of t = record { states = length t; options = length (joined t); moves = length (joined (joined t)) }

-- well formed at scale d, and within the lent lists
pub record Fits (d : ℕ) (l : Lists) (t : Tree) : Type 0 where
  pub formed : Formed d (process_of t)
  pub state_room : length t + 1 ≤ length l.option_starts
  pub option_room : length (joined t) + 1 ≤ length l.move_starts
  pub move_room : 2 * length (joined (joined t)) ≤ length l.moves

-- written over the front of the lent lists; numbers past those that are needed stay
abbrev pub spread : Lists → Lists → Lists
spread l old =
    lists (over l.option_starts old.option_starts) (over l.move_starts old.move_starts)
    (over l.moves old.moves)

-- A text is loaded exactly when it spells a depot that fits: the lists then hold its encoding, and no other depot has
-- this text. A text that is refused leaves the lists as they were.
pub record LoadedAsSpelled (d : ℕ) (text : List ℕ) (old : Lists) (r : Result Size Telling) (new : Lists) : Type 0 where
  pub loaded : (n : Size) → r ≡ Ok n → (t : Tree) × Fits d old t × (text ≡ render t)
  pub spelled : (t : Tree) → Fits d old t → text ≡ render t
      → (r ≡ Ok (size_of t)) × (new ≡ spread (encoding (process_of t)) old)
  pub unique : (t u : Tree) → Fits d old t → Fits d old u → text ≡ render t → text ≡ render u → t ≡ u
  pub refused : is_ok r ≡ false → new ≡ old
