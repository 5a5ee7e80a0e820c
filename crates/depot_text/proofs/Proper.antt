-- The numbers of a depot that fits have 32 bits.
use Rattle.std.proofs.Common.{ℕ, ◌+◌, ◌≤◌, List, [], ◌∷◌, map, length, subst, arith, length-append}
use lib.ListN.{length-map}
use Rattle.std.specs.List.{AllByRecursion as Every}
use Rattle.std.proofs.ByRecursion.{All-append}
use Rattle.process.specs.Process.{joined, weights, Within, OptionFormed, StateFormed}
use Rattle.encoding.specs.Lists.{Lists}
use Rattle.depot_text.specs.declared.item.Spelled.{Spelled}
use Rattle.depot_text.specs.declared.item.Spelled.TheVariants as spelled
use Rattle.depot_text.specs.declared.item.Item.TheVariants as item
use Rattle.depot_text.specs.Loading.{place_of}
use Rattle.depot_text.specs.Spelling.{SpelledMove, Tree, Fits, move_of, process_of}
use Rattle.depot_text.specs.Spelling.{move_items, option_items, state_items, depot_items}
use Rattle.depot_text.proofs.Runs.{ProperItem}

module _ (d n : ℕ) (limit : d ≤ 65536) (small : n ≤ 4096) where
  proper-to : (p : Spelled) → Within n (place_of p) → ProperItem (item.To p)
  proper-to (spelled.State k) h = omega arith
  proper-to spelled.Target h = tt
  proper-to spelled.Exit h = tt

  proper-moves : (ms : List SpelledMove) → Every (λ m. Within n m.place) (map move_of ms)
      → weights (map move_of ms) ≤ d → Every ProperItem (move_items ms)
  proper-moves [] ps h = tt
  proper-moves (m ∷ ms) ps h = (proper-to m.to ps.0, (omega arith, proper-moves ms ps.1 (omega arith)))

  proper_options : (j : ℕ) (os : List (List SpelledMove)) → Every (OptionFormed d n) (map (map move_of) os)
      → j + length os ≤ 65536 → Every ProperItem (option_items j os)
  proper_options j [] fs h = tt
  proper_options j (ms ∷ os) fs h = (
    omega arith,
    All-append ProperItem (move_items ms) (option_items (j + 1) os)
        (proper-moves ms fs.0.places (omega (arith, fs.0.sum))) (proper_options (j + 1) os fs.1 (omega arith)),
  )

  proper_states : (k : ℕ) (t : Tree) → Every (StateFormed d n) (process_of t)
      → length (joined (process_of t)) ≤ 65536 → k + length t ≤ 4096 → Every ProperItem (state_items k t)
  proper_states k [] fs o h = tt
  proper_states k (os ∷ t) fs o h =
      let long = length-append (map (map move_of) os) (joined (process_of t)) in
      let same = length-map os (map move_of) in (
        omega arith,
        All-append ProperItem (option_items 0 os) (state_items (k + 1) t)
            (proper_options 0 os fs.0.each (omega arith)) (proper_states (k + 1) t fs.1 (omega arith) (omega arith)),
      )

pub proper_items : (d : ℕ) (l : Lists) (t : Tree) → Fits d l t → Every ProperItem (depot_items t)
proper_items d l t h =
    let f = h.formed in
    let same = length-map t (map (map move_of)) in
    let each = subst (λ n. Every (StateFormed d n) (process_of t)) same f.each in (
      tt,
      (
        omega (arith, f.state_limit),
        All-append ProperItem (state_items 0 t) (item.End ∷ [])
            (proper_states d (length t) f.scale_limit (omega (arith, f.state_limit)) 0 t each
            (omega (arith, f.option_limit)) (omega (arith, f.state_limit)))
            (tt, tt),
      ),
    )
