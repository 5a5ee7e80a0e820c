-- The lines of a vector that the list can hold are read to the end, and leave its entries in the list.
use Rattle.std.proofs.Common.{◌≡◌, ℕ, ◌+◌, ◌-◌, ◌^◌, ◌<◌, ◌≤◌, false, ltb, List, [], ◌∷◌, ◌++◌, map, length, drop, is_ok, Ok, Result, sym, refl, ap, ◌∙◌, append_assoc, append-nil, arith}
use Rattle.std.specs.List.{AllByRecursion as Every}
use Rattle.std.proofs.lemmas.List.{length_push}
use Rattle.std.proofs.lemmas.Bool.{cond-true, false≢true, lt-ltb}
use Rattle.refusal.specs.Tellings.{Telling}
use Rattle.encoding.specs.Lists.{Lists, lists}
use Rattle.passes.specs.Passes.{Halt, halt, then, demand, pass, filled}
use Rattle.passes.specs.Over.{over}
use Rattle.passes.proofs.Over.{set_over}
use Rattle.passes.proofs.Turns.{pass_on, fill_on, pass-over, fill_over}
use Rattle.vector_text.specs.declared.format.Kind.{Kind}
use Rattle.vector_text.specs.declared.item.Item.{Item}
use Rattle.vector_text.specs.declared.item.Item.TheVariants as item
use Rattle.vector_text.specs.declared.format.Phase.{Phase}
use Rattle.vector_text.specs.declared.format.Phase.TheVariants as phase
use Rattle.vector_text.specs.declared.format.Vector.{Vector}
use Rattle.vector_text.specs.Machine.{in_phase, inside, has_ended, on_item, next, ended, puts}
use Rattle.vector_text.specs.Reading.{beginning}
use Rattle.vector_text.specs.Spelling.{entry_line}
use Rattle.vector_text.proofs.Spelled.{line, ProperItem, on_its_line, vector_lines}

-- a vector of a kind has begun and not ended
abbrev pub Inside : Vector → Kind → Type 0
Inside v k = (at : ℕ) → inside v.phase at ≡ Ok k

goes_on-phase : (p : Phase) (k : Kind) → inside p 0 ≡ Ok k → has_ended p ≡ false
goes_on-phase phase.Start k e = refl
goes_on-phase (phase.Vector j) k e = refl
goes_on-phase (phase.Entry j n) k e = refl
goes_on-phase (phase.End j) k e = absurd (false≢true (ap is_ok e))

pub goes_on : (v : Vector) (k : Kind) → Inside v k → ended v ≡ false
goes_on v k i = goes_on-phase v.phase k (i 0)

-- the state after an entry, and after the end
abbrev pub with_entry : Vector → Kind → ℕ → Vector
with_entry v k e = in_phase v (phase.Entry k e) (v.count + 1)

abbrev with_end : Vector → Kind → ℕ → Vector
with_end v k count = in_phase v (phase.End k) count

entry_on : (v : Vector) (at e : ℕ) (k : Kind) → Inside v k → v.count < v.room
    → on_item v at (item.Entry e) ≡ Ok (with_entry v k e)
entry_on v at e k i h =
    ap (λ r. then r (λ j. demand (ltb v.count v.room) 14 at (Ok (with_entry v j e)))) (i at)
    ∙ cond-true (ltb v.count v.room) _ _ (lt-ltb v.count v.room h)

end_on : (v : Vector) (at : ℕ) (k : Kind) → Inside v k → on_item v at item.End ≡ Ok (with_end v k v.count)
end_on v at k i = ap (λ r. then r (λ j. Ok (with_end v j v.count))) (i at)

-- one line of an item that is taken
module _ (v y : Vector) (at : ℕ) (i : Item) (proper : ProperItem i) (go : ended v ≡ false)
    (e : on_item v at i ≡ Ok y) (ls : List (List ℕ)) where
  pass_item : pass next ended v at (line i ∷ ls) ≡ pass next ended y (at + 1) ls
  pass_item =
      pass_on next ended v at go (line i ∷ ls) (halt y (at + 1) ls)
      (sym (ap (λ w. then w (λ s. Ok (halt s (at + 1) ls))) (on_its_line v at i proper ∙ e)))

  fill_item : (l : Lists) → filled next ended puts v at (line i ∷ ls) l ≡ filled next ended puts y (at + 1) ls (puts y l)
  fill_item l =
      fill_on next ended v at go puts l (line i ∷ ls) (halt y (at + 1) ls)
      (sym (ap (λ w. then w (λ s. Ok (halt s (at + 1) ls))) (on_its_line v at i proper ∙ e)))

-- where a pass ends: after so many lines, with a kind and a number of entries
abbrev pub whole : Vector → Kind → ℕ → ℕ → List (List ℕ) → Result (Halt Vector) Telling
whole v k count far rest = Ok (halt (with_end v k count) far rest)

entries-pass : (es : List ℕ) (v : Vector) (k : Kind) (at : ℕ) (rest : List (List ℕ)) → Inside v k
    → Every (λ n. n < 2 ^ 32) es → v.count + length es ≤ v.room
    → pass next ended v at (map entry_line es ++ (line item.End ∷ rest))
    ≡ whole v k (v.count + length es) (at + (length es + 1)) rest
entries-pass [] v k at rest i h fits =
    let same : v.count ≡ v.count + length {A = ℕ} [] = omega arith in
    pass_item v (with_end v k v.count) at item.End tt (goes_on v k i) (end_on v at k i) rest
    ∙ pass-over next ended (with_end v k v.count) (at + 1) refl rest
    ∙ (λ j. whole v k (same j) (at + 1) rest)
entries-pass (e ∷ es) v k at rest i h fits =
    let y = with_entry v k e in
    let ls = map entry_line es ++ (line item.End ∷ rest) in
    let all : v.count + 1 + length es ≡ v.count + length (e ∷ es) = omega arith in
    let far : at + 1 + (length es + 1) ≡ at + (length (e ∷ es) + 1) = omega arith in
    pass_item v y at (item.Entry e) h.0 (goes_on v k i) (entry_on v at e k i (omega arith)) ls
    ∙ entries-pass es y k (at + 1) rest (λ a. refl) h.1 (omega arith)
    ∙ (λ j. whole v k (all j) (far j) rest)

entries_fill : (A B old es xs : List ℕ) (v : Vector) (k : Kind) (at : ℕ) (rest : List (List ℕ)) → Inside v k
    → Every (λ n. n < 2 ^ 32) es → v.count + length es ≤ v.room → v.room ≡ length old → v.count ≡ length xs
    → filled next ended puts v at (map entry_line es ++ (line item.End ∷ rest)) (lists A B (over xs old))
    ≡ lists A B (over (xs ++ es) old)
entries_fill A B old [] xs v k at rest i h fits room count =
    fill_item v (with_end v k v.count) at item.End tt (goes_on v k i) (end_on v at k i) rest (lists A B (over xs old))
    ∙ fill_over next ended (with_end v k v.count) (at + 1) refl puts (lists A B (over xs old)) rest
    ∙ ap (λ z. lists A B (over z old)) (sym (append-nil xs))
entries_fill A B old (e ∷ es) xs v k at rest i h fits room count =
    let y = with_entry v k e in
    let ls = map entry_line es ++ (line item.End ∷ rest) in
    let long = length_push xs e in
    fill_item v y at (item.Entry e) h.0 (goes_on v k i) (entry_on v at e k i (omega arith)) ls (lists A B (over xs old))
    ∙ ap (λ z. filled next ended puts y (at + 1) ls (lists A B z))
    (set_over xs old (v.count + 1 - 1) e (omega arith) (omega arith))
    ∙ entries_fill A B old es (xs ++ (e ∷ [])) y k (at + 1) rest (λ a. refl) h.1 (omega arith) room (omega arith)
    ∙ ap (λ z. lists A B (over z old)) (append_assoc xs (e ∷ []) es)

-- nothing but the kind known yet
abbrev pub begun : Kind → ℕ → Vector
begun k room = in_phase (beginning room) (phase.Vector k) 0

module _ (k : Kind) (es : List ℕ) (first : ℕ) (rest : List (List ℕ)) (h : Every (λ n. n < 2 ^ 32) es) where
  pub vector_passes : (room : ℕ) → length es ≤ room
      → pass next ended (beginning room) first (vector_lines k es rest)
      ≡ whole (beginning room) k (length es) (first + (length es + 2)) rest
  vector_passes room fits =
      let ls = map entry_line es ++ (line item.End ∷ rest) in
      let all : 0 + length es ≡ length es = omega arith in
      let far : first + 1 + (length es + 1) ≡ first + (length es + 2) = omega arith in
      pass_item (beginning room) (begun k room) first (item.Vector k) tt refl refl ls
      ∙ entries-pass es (begun k room) k (first + 1) rest (λ a. refl) h (omega arith)
      ∙ (λ j. whole (beginning room) k (all j) (far j) rest)

  pub vector_fills : (A B old : List ℕ) → length es ≤ length old
      → filled next ended puts (beginning (length old)) first (vector_lines k es rest) (lists A B old)
      ≡ lists A B (es ++ drop (length es) old)
  vector_fills A B old fits =
      let ls = map entry_line es ++ (line item.End ∷ rest) in
      fill_item (beginning (length old)) (begun k (length old)) first (item.Vector k) tt refl refl ls (lists A B old)
      ∙ entries_fill A B old es [] (begun k (length old)) k (first + 1) rest (λ a. refl) h (omega arith) refl refl
