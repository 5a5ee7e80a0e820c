-- Lines that are read are those of a vector that the list can hold.
use Rattle.std.proofs.Common.{◌≡◌, ℕ, ◌+◌, ◌^◌, ◌<◌, ◌≤◌, Bool, false, cond, ltb, List, [], ◌∷◌, ◌++◌, map, length, is_ok, Some, None, Ok, Err, Option, Result, sym, refl, ap, ◌∙◌, subst, inl, inr, arith}
use Rattle.std.specs.List.{AllByRecursion as Every}
use Rattle.std.proofs.lemmas.Bool.{cond-true, cond-false, cases_Bool, false≢true, ltb-true}
use Rattle.refusal.specs.Tellings.{Telling, at_text}
use Rattle.lines.specs.Lines.{Said, parsed}
use Rattle.lines.specs.Writing.{written, Proper}
use Rattle.lines.proofs.Written.{parsed-proper}
use Rattle.passes.specs.Passes.{Halt, then, demand, on_said, pass}
use Rattle.vector_text.specs.declared.format.Kind.{Kind}
use Rattle.vector_text.specs.declared.item.Item.{Item}
use Rattle.vector_text.specs.declared.item.Item.TheVariants as item
use Rattle.vector_text.specs.declared.format.Phase.{Phase}
use Rattle.vector_text.specs.declared.format.Phase.TheVariants as phase
use Rattle.vector_text.specs.declared.format.Vector.{Vector}
use Rattle.vector_text.specs.Machine.{at_start, inside, item_of, on_item, next, ended}
use Rattle.vector_text.specs.Reading.{beginning}
use Rattle.vector_text.specs.Spelling.{entry_line}
use Rattle.vector_text.proofs.Spelled.{line, ProperItem, said_item, vector_lines}
use Rattle.vector_text.proofs.Complete.{Inside, goes_on, with_entry, begun}

abbrev R : Type 0
R = Result (Halt Vector) Telling

none_ok : {A : Type 0} (e : Telling) (h : Halt Vector) → ◌≡◌ {A = R} (Err e) (Ok h) → A
none_ok e h x = absurd (false≢true (ap is_ok x))

refused : {A : Type 0} (b : Bool) (w : Result Vector Telling) (f : Telling) (h : Halt Vector) (g : Vector → R)
    → b ≡ false → then (cond b w (Err f)) g ≡ Ok h → A
refused b w f h g t e = none_ok f h (sym (ap (λ r. then r g) (cond-false b w (Err f) t)) ∙ e)

-- a line that is taken is that of the item it means
module _ (v : Vector) (at : ℕ) (l : List ℕ) (h : Halt Vector) (g : Vector → R) where
  abbrev ItemTaken : Type 0
  ItemTaken = (i : Item) × (l ≡ line i) × ProperItem i × (then (on_item v at i) g ≡ Ok h)

  meant : (x : Said) (i : Item) → item_of x ≡ i → Proper x → l ≡ written x → then (on_item v at i) g ≡ Ok h → ItemTaken
  meant x i m p w e =
      let z = said_item x p (λ o. other i (sym m ∙ o) e) in
      (i, w ∙ ap written z.0 ∙ ap line m, subst ProperItem m z.1, e)
    where
      other : (i : Item) → i ≡ item.Other → then (on_item v at i) g ≡ Ok h → ⊥
      other i o e = none_ok (at_text 12 at) h (sym (ap (λ j. then (on_item v at j) g) o) ∙ e)

  said : (o : Option Said) → parsed l ≡ o → then (on_said next v at o) g ≡ Ok h → ItemTaken
  said None p e = none_ok (at_text 11 at) h e
  said (Some x) p e = let q = parsed-proper l x p in meant x (item_of x) refl q.0 q.1 e

-- entries and the end
abbrev Tail : ℕ → ℕ → List (List ℕ) → Type 0
Tail count room ls =
    (es : List ℕ) × (rest : List (List ℕ)) × Every (λ n. n < 2 ^ 32) es × (count + length es ≤ room)
    × (ls ≡ map entry_line es ++ (line item.End ∷ rest))

begun_phase : (p : Phase) (k : Kind) → inside p 0 ≡ Ok k → at_start p ≡ false
begun_phase phase.Start k e = absurd (false≢true (ap is_ok e))
begun_phase (phase.Vector j) k e = refl
begun_phase (phase.Entry j n) k e = refl
begun_phase (phase.End j) k e = refl

module _ (v : Vector) (k : Kind) (at : ℕ) (l : List ℕ) (ls : List (List ℕ)) (h : Halt Vector) (i : Inside v k)
    (few : v.count ≤ v.room)
    (more : (y : Vector) → Inside y k → y.count ≤ y.room → pass next ended y (at + 1) ls ≡ Ok h
    → Tail y.count y.room ls) where
  entry-taken : (n : ℕ) → l ≡ entry_line n → n < 2 ^ 32
      → then (on_item v at (item.Entry n)) (λ y. pass next ended y (at + 1) ls) ≡ Ok h → Tail v.count v.room (l ∷ ls)
  entry-taken n w small e =
      let g = λ (y : Vector). pass next ended y (at + 1) ls in
      let t = ltb v.count v.room in
      let e' = sym (ap (λ r. then (then r (λ j. demand t 14 at (Ok (with_entry v j n)))) g) (i at)) ∙ e in
      elim (cases_Bool t) [
        | inl room ↦
            let short = ltb-true v.count v.room room in
            let q = more (with_entry v k n) (λ a. refl) (omega arith) (sym (ap (λ r. then r g) (cond-true t _ _ room)) ∙ e') in
            (n ∷ q.0, q.1, (small, q.2), omega (arith, q.3), λ j. w j ∷ q.4 j)
        | inr full ↦ refused t _ _ h g full e'
      ]

  item_taken : (j : Item) → l ≡ line j → ProperItem j
      → then (on_item v at j) (λ y. pass next ended y (at + 1) ls) ≡ Ok h → Tail v.count v.room (l ∷ ls)
  item_taken (item.Vector j) w p e =
      refused (at_start v.phase) _ _ h (λ y. pass next ended y (at + 1) ls) (begun_phase v.phase k (i 0)) e
  item_taken (item.Entry n) w p e = entry-taken n w p e
  item_taken item.End w p e = ([], ls, tt, omega arith, ap (λ x. x ∷ ls) w)
  item_taken item.Other w p e = absurd p

entries-taken : (v : Vector) (k : Kind) (at : ℕ) (ls : List (List ℕ)) (h : Halt Vector) → Inside v k
    → v.count ≤ v.room → pass next ended v at ls ≡ Ok h → Tail v.count v.room ls
entries-taken v k at [] h i few e =
    none_ok (at_text 12 at) h (sym (cond-false (ended v) _ _ (goes_on v k i)) ∙ e)
entries-taken v k at (l ∷ ls) h i few e =
    let q =
    said v at l h (λ y. pass next ended y (at + 1) ls) (parsed l) refl
    (sym (cond-false (ended v) _ _ (goes_on v k i)) ∙ e) in
    item_taken v k at l ls h i few (λ y j f g. entries-taken y k (at + 1) ls h j f g) q.0 q.1 q.2 q.3

-- the whole vector
abbrev pub Whole : ℕ → List (List ℕ) → Type 0
Whole room ls =
    (k : Kind) × (es : List ℕ) × (rest : List (List ℕ)) × Every (λ n. n < 2 ^ 32) es × (length es ≤ room)
    × (ls ≡ vector_lines k es rest)

first_taken : (room at : ℕ) (l : List ℕ) (ls : List (List ℕ)) (h : Halt Vector) (i : Item) → l ≡ line i → ProperItem i
    → then (on_item (beginning room) at i) (λ y. pass next ended y (at + 1) ls) ≡ Ok h → Whole room (l ∷ ls)
first_taken room at l ls h (item.Vector k) w p e =
    let q = entries-taken (begun k room) k (at + 1) ls h (λ a. refl) (omega arith) e in
    (k, q.0, q.1, q.2, omega (arith, q.3), λ j. w j ∷ q.4 j)
first_taken room at l ls h (item.Entry n) w p e = none_ok (at_text 12 at) h e
first_taken room at l ls h item.End w p e = none_ok (at_text 12 at) h e
first_taken room at l ls h item.Other w p e = absurd p

pub vector_taken : (room first : ℕ) (ls : List (List ℕ)) (h : Halt Vector)
    → pass next ended (beginning room) first ls ≡ Ok h → Whole room ls
vector_taken room first [] h e = none_ok (at_text 12 first) h e
vector_taken room first (l ∷ ls) h e =
    let q = said (beginning room) first l h (λ y. pass next ended y (first + 1) ls) (parsed l) refl e in
    first_taken room first l ls h q.0 q.1 q.2 q.3
