-- A table that is opened from a text means the depot that the text spells.
use Rattle.std.specs.Prelude.{◌≡◌, ℕ, List, Ok, Err, Result}
use Rattle.refusal.specs.Tellings.{Telling}
use Rattle.process.specs.Process.{Process}
use Rattle.encoding.specs.Lists.{Lists}
use Rattle.depot_text.specs.Loading.{answer}
use Rattle.depot_text.specs.Spelling.{Tree, process_of, render, Fits}

-- r is the answer, and the table means `before` and then `after`
pub record OpenedAsSpelled (text : List ℕ) (old : Lists) (before : Process) (r : Result (Unit {0}) Telling) (after : Process) : Type 0 where
  pub opened : r ≡ Ok tt → (t : Tree) × Fits 1000 old t × (text ≡ render t) × (after ≡ process_of t)
  pub spelled : (t : Tree) → Fits 1000 old t → text ≡ render t → (r ≡ Ok tt) × (after ≡ process_of t)
  pub refused : (e : Telling) → r ≡ Err e → (answer 1000 1 text old ≡ Err e) × (after ≡ before)
