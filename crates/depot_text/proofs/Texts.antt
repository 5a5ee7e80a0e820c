-- An accepted text is the lines of its items, one after the other, and those lines are read as their items.
use Rattle.std.proofs.Common.{◌≡◌, ℕ, ◌+◌, ◌^◌, ◌<◌, true, ◌&&◌, List, [], ◌∷◌, ◌++◌, map, Some, None, Ok, Err, codes, decimal, Option, Result, sym, refl, ap, ◌∙◌, subst, inl, inr, arith, length-append}
use Rattle.std.specs.List.{flat_map as written_all, AllByRecursion as Every}
use Rattle.std.specs.Str.{bytes_eq}
use Rattle.std.proofs.lemmas.List.Folds.{flat_map-map}
use Rattle.std.proofs.lemmas.Slice.Eq.{bytes_eq-Decides}
use Rattle.std.proofs.lemmas.Bool.{cond-true, cond-false, cond_both, cases_Bool, and_parts, eqb-true}
use Rattle.refusal.specs.Tellings.{Telling, at_text}
use Rattle.encoding.specs.Lists.{Lists}
use Rattle.lines.specs.Lines.{Said, says_word, says_number, parsed}
use Rattle.lines.specs.Writing.{written, Proper}
use Rattle.lines.proofs.Written.{named_name, parsed-proper, parsed-written, first-written, after-written, written-some}
use Rattle.passes.specs.Texts.{lines}
use Rattle.passes.specs.Passes.{Halt, then, on_said, pass, filled, onward as filled_on}
use Rattle.passes.proofs.Cuts.{lines_cut, lines-whole}
use Rattle.depot_text.specs.declared.item.Spelled.TheVariants as spelled
use Rattle.depot_text.specs.declared.item.Item.{Item}
use Rattle.depot_text.specs.declared.item.Item.TheVariants as item
use Rattle.depot_text.specs.declared.progress.Rules.{Rules}
use Rattle.depot_text.specs.declared.progress.Progress.{Progress}
use Rattle.depot_text.specs.declared.progress.Depot.{Depot}
use Rattle.depot_text.specs.Items.{word_item, number_item, item_of}
use Rattle.depot_text.specs.Machine.{phase_number, on_item, start}
use Rattle.depot_text.specs.Loading.{depot, onto, next, ended, puts, rules_of, beginning, nothing_after, read}
use Rattle.depot_text.specs.Spelling.{says}
use Rattle.depot_text.proofs.Runs.{run, onward, wrote, ProperItem}

-- what an item's line says is proper, and means the item
pub says-proper : (i : Item) → ProperItem i → Proper (says i)
says-proper item.Kind h = (named_name (codes "kind") refl, named_name (codes "depot") refl)
says-proper (item.States n) h = (named_name (codes "states") refl, refl, h)
says-proper (item.State n) h = (named_name (codes "state") refl, refl, h)
says-proper (item.Choice n) h = (named_name (codes "option") refl, refl, h)
says-proper (item.To (spelled.State n)) h = (named_name (codes "to") refl, refl, h)
says-proper (item.To spelled.Target) h = (named_name (codes "to") refl, named_name (codes "target") refl)
says-proper (item.To spelled.Exit) h = (named_name (codes "to") refl, named_name (codes "exit") refl)
says-proper (item.Weight n) h = (named_name (codes "weight") refl, refl, h)
says-proper item.End h = (named_name (codes "end") refl, named_name (codes "depot") refl)
says-proper item.Other h = absurd h

pub means_says : (i : Item) → ProperItem i → item_of (says i) ≡ i
means_says item.Kind h = refl
means_says (item.States n) h = refl
means_says (item.State n) h = refl
means_says (item.Choice n) h = refl
means_says (item.To (spelled.State n)) h = refl
means_says (item.To spelled.Target) h = refl
means_says (item.To spelled.Exit) h = refl
means_says (item.Weight n) h = refl
means_says item.End h = refl
means_says item.Other h = absurd h

-- and a line that means an item says what that item's line says
abbrev Means : Said → Item → Type 0
Means s i = (i ≡ item.Other → ⊥) → (s ≡ says i) × ProperItem i

word_means : (key v : List ℕ) → Means (says_word key v) (word_item key v)
word_means key v =
    cond_both _ item.Kind _ P (λ t _. (both (codes "kind") (codes "depot") t, tt))
    (λ _. cond_both _ (item.To spelled.Target) _ P (λ t _. (both (codes "to") (codes "target") t, tt))
    (λ _. cond_both _ (item.To spelled.Exit) _ P (λ t _. (both (codes "to") (codes "exit") t, tt))
    (λ _. cond_both _ item.End item.Other P (λ t _. (both (codes "end") (codes "depot") t, tt))
    (λ _ g. absurd (g refl)))))
  where
    P : Item → Type 0
    P i = Means (says_word key v) i

    both : (k w : List ℕ) → (bytes_eq key k && bytes_eq v w) ≡ true → says_word key v ≡ says_word k w
    both k w t =
        let p = and_parts (bytes_eq key k) (bytes_eq v w) t in
        λ i. says_word ((bytes_eq-Decides key k).0 p.0 i) ((bytes_eq-Decides v w).0 p.1 i)

number_means : (key : List ℕ) (n : ℕ) → n < 2 ^ 32 → Means (says_number key (decimal n) n) (number_item key n)
number_means key n h =
    cond_both _ (item.States n) _ P (λ t _. (one (codes "states") t, h))
    (λ _. cond_both _ (item.State n) _ P (λ t _. (one (codes "state") t, h))
    (λ _. cond_both _ (item.Choice n) _ P (λ t _. (one (codes "option") t, h))
    (λ _. cond_both _ (item.To (spelled.State n)) _ P (λ t _. (one (codes "to") t, h))
    (λ _. cond_both _ (item.Weight n) item.Other P (λ t _. (one (codes "weight") t, h)) (λ _ g. absurd (g refl))))))
  where
    P : Item → Type 0
    P i = Means (says_number key (decimal n) n) i

    one : (k : List ℕ) → bytes_eq key k ≡ true → says_number key (decimal n) n ≡ says_number k (decimal n) n
    one k t = ap (λ x. says_number x (decimal n) n) ((bytes_eq-Decides key k).0 t)

pub said_item : (s : Said) → Proper s → (item_of s ≡ item.Other → ⊥) → (s ≡ says (item_of s)) × ProperItem (item_of s)
said_item (says_word key v) h = word_means key v
said_item (says_number key v n) h =
    subst (λ x. Means (says_number key x n) (number_item key n)) (sym h.1) (number_means key n h.2)

-- an item's line, and the lines of a text of items
abbrev pub line : Item → List ℕ
line i = written (says i)

pub lines_items : (is : List Item) → Every ProperItem is → lines (written_all (λ i. written (says i)) is) ≡ map line is
lines_items [] h = refl
lines_items (i ∷ is) h =
    let rest = written_all (λ i. written (says i)) is in
    let proper = says-proper i h.0 in
    let some = written-some (says i) in
    let long = length-append (line i) rest in
    lines_cut (line i ++ rest) (omega arith)
    ∙ (λ k. first-written (says i) rest proper k ∷ lines (after-written (says i) rest proper k))
    ∙ ap (λ ls. line i ∷ ls) (lines_items is h.1)

text_of_items : (t : List ℕ) (is : List Item) → lines t ≡ map line is → t ≡ written_all (λ i. written (says i)) is
text_of_items t is e = sym (lines-whole t) ∙ ap (written_all (λ l. l)) e ∙ flat_map-map (λ l. l) line is

-- after the end every item is refused
over : (r : Rules) (s : Progress) (at : ℕ) (i : Item) → phase_number s.phase ≡ 7 → on_item r s at i ≡ Err (at_text 12 at)
over r s at item.Kind e = rw e refl
over r s at (item.States n) e = rw e refl
over r s at (item.State k) e = rw e refl
over r s at (item.Choice j) e = rw e refl
over r s at (item.To p) e = rw e refl
over r s at (item.Weight w) e = rw e refl
over r s at item.End e = rw e refl
over r s at item.Other e = refl

at_end : (r : Rules) (s : Progress) → ended (depot r s) ≡ true → phase_number s.phase ≡ 7
at_end r s e = eqb-true (phase_number s.phase) 7 e

-- reading lines on, and nothing after the end
abbrev no_more : Halt Depot → Result Depot Telling
no_more h = nothing_after h.state h.at h.rest

abbrev reads_on : Depot → ℕ → List (List ℕ) → Result Depot Telling
reads_on m at ls = then (pass next ended m at ls) no_more

pub parsed_line : (i : Item) → ProperItem i → parsed (line i) ≡ Some (says i)
parsed_line i h = parsed-written (says i) (says-proper i h)

-- after the end every line is refused
no_line : {A : Type 0} (s m : Depot) (at : ℕ) (o : Option Said) → on_said (λ m at x. Err (at_text 12 at)) s at o ≡ Ok m → A
no_line s m at None e = cc
no_line s m at (Some x) e = cc

module _ (r : Rules) where
  -- the lines of proper items are read as these items
  then-onto : (v : Result Progress Telling) (at : ℕ) (ls : List (List ℕ)) (f : Progress → Result Progress Telling)
      → ((s : Progress) → reads_on (depot r s) at ls ≡ onto r (f s))
      → then (then (onto r v) (λ m. pass next ended m at ls)) no_more ≡ onto r (then v f)
  then-onto (Ok s) at ls f h = h s
  then-onto (Err e) at ls f h = refl

  reads_items : (s : Progress) (at : ℕ) (is : List Item) → Every ProperItem is
      → reads_on (depot r s) at (map line is) ≡ onto r (run r s at is)
  reads_items s at [] h =
      elim (cases_Bool (ended (depot r s))) [
        | inl t ↦
            ap (λ v. then v no_more) (cond-true (ended (depot r s)) _ _ t)
            ∙ sym (ap (onto r) (cond-true (ended (depot r s)) _ _ t))
        | inr f ↦
            ap (λ v. then v no_more) (cond-false (ended (depot r s)) _ _ f)
            ∙ sym (ap (onto r) (cond-false (ended (depot r s)) _ _ f))
      ]
  reads_items s at (i ∷ is) h =
      let said = parsed_line i h.0 in
      let on = λ (m : Depot). pass next ended m (at + 1) (map line is) in
      elim (cases_Bool (ended (depot r s))) [
        | inl t ↦
            ap (λ v. then v no_more) (cond-true (ended (depot r s)) _ _ t)
            ∙ ap (λ o. on_said (λ m at x. Err (at_text 12 at)) (depot r s) at o) said
            ∙ sym (ap (λ v. onto r (then v (λ s'. run r s' (at + 1) is))) (over r s at i (at_end r s t)))
        | inr f ↦
            ap (λ v. then v no_more) (cond-false (ended (depot r s)) _ _ f)
            ∙ ap (λ o. then (then (on_said next (depot r s) at o) on) no_more) said
            ∙ ap (λ j. then (then (onto r (on_item r s at j)) on) no_more) (means_says i h.0)
            ∙ then-onto (on_item r s at i) (at + 1) (map line is) (λ s'. run r s' (at + 1) is)
            (λ s'. reads_items s' (at + 1) is h.1)
      ]

  -- and they put into lists what the items do
  onward-onto : (v : Result Progress Telling) (l : Lists) (f : Depot → Lists) (g : Progress → Lists)
      → ((s : Progress) → f (depot r s) ≡ g s) → filled_on next ended puts (onto r v) l f ≡ onward v l g
  onward-onto (Ok s) l f g h = h s
  onward-onto (Err e) l f g h = refl

  filled_items : (s : Progress) (at : ℕ) (l : Lists) (is : List Item) → Every ProperItem is
      → filled next ended puts (depot r s) at (map line is) l ≡ wrote r s at l is
  filled_items s at l [] h = refl
  filled_items s at l (i ∷ is) h =
      let on = λ (m : Depot). filled next ended puts m (at + 1) (map line is) (puts m l) in
      let go = λ (s' : Progress). wrote r s' (at + 1) (puts (depot r s') l) is in
      elim (cases_Bool (ended (depot r s))) [
        | inl t ↦
            cond-true (ended (depot r s)) _ _ t
            ∙ sym (ap (λ v. onward v l go) (over r s at i (at_end r s t)))
        | inr f ↦
            cond-false (ended (depot r s)) _ _ f
            ∙ ap (λ o. filled_on next ended puts (on_said next (depot r s) at o) l on) (parsed_line i h.0)
            ∙ ap (λ j. filled_on next ended puts (onto r (on_item r s at j)) l on) (means_says i h.0)
            ∙ onward-onto (on_item r s at i) l on go
            (λ s'. filled_items s' (at + 1) (puts (depot r s') l) is h.1)
      ]

  -- lines that are accepted are those of proper items
  abbrev Items : List (List ℕ) → Type 0
  Items ls = (is : List Item) × (ls ≡ map line is) × Every ProperItem is

  module _ (s : Progress) (at : ℕ) (l : List ℕ) (ls : List (List ℕ)) (m : Depot)
      (more : (s' : Progress) → reads_on (depot r s') (at + 1) ls ≡ Ok m → Items ls) where
    one_item : (x : Said) (v : Result Progress Telling) → parsed l ≡ Some x → on_item r s at (item_of x) ≡ v
        → then (then (onto r v) (λ m'. pass next ended m' (at + 1) ls)) no_more ≡ Ok m → Items (l ∷ ls)
    one_item x (Err f) p g e = cc
    one_item x (Ok s') p g e =
        let q = more s' e in
        let w = parsed-proper l x p in
        let z = said_item x w.0 (λ o. let f = ap (on_item r s at) o in cc) in
        (item_of x ∷ q.0, (λ i. (w.1 ∙ ap written z.0) i ∷ q.1 i), (z.1, q.2))

    some_item : (o : Option Said) → parsed l ≡ o
        → then (then (on_said next (depot r s) at o) (λ m'. pass next ended m' (at + 1) ls)) no_more ≡ Ok m
        → Items (l ∷ ls)
    some_item None p e = cc
    some_item (Some x) p e = one_item x (on_item r s at (item_of x)) p refl e

  items_of_lines : (s : Progress) (at : ℕ) (ls : List (List ℕ)) (m : Depot) → reads_on (depot r s) at ls ≡ Ok m → Items ls
  items_of_lines s at [] m e = ([], refl, tt)
  items_of_lines s at (l ∷ ls) m e =
      elim (cases_Bool (ended (depot r s))) [
        | inl t ↦
            no_line (depot r s) m at (parsed l)
            (sym (ap (λ v. then v no_more) (cond-true (ended (depot r s)) _ _ t)) ∙ e)
        | inr f ↦
            some_item s at l ls m (λ s' g. items_of_lines s' (at + 1) ls m g) (parsed l) refl
            (sym (ap (λ v. then v no_more) (cond-false (ended (depot r s)) _ _ f)) ∙ e)
      ]

  ran : (v : Result Progress Telling) (m : Depot) → onto r v ≡ Ok m → (v ≡ Ok m.progress) × (m ≡ depot r m.progress)
  ran (Ok s) m e =
      let same : depot r s ≡ m = cc in
      subst (λ x. (◌≡◌ {A = Result Progress Telling} (Ok s) (Ok x.progress)) × (x ≡ depot r x.progress)) same
      (refl, refl)
  ran (Err f) m e = cc

module _ (d first : ℕ) where
  pub items_of_read : (t : List ℕ) (l : Lists) (m : Depot) → read d first t l ≡ Ok m
      → (is : List Item) × (t ≡ written_all (λ i. written (says i)) is)
      × (run (rules_of d l) start first is ≡ Ok m.progress) × Every ProperItem is
      × (m ≡ depot (rules_of d l) m.progress)
  items_of_read t l m e =
      let r = rules_of d l in
      let q = items_of_lines r start first (lines t) m e in
      let same = sym (reads_items r start first q.0 q.2) ∙ ap (reads_on (depot r start) first) (sym q.1) ∙ e in
      let w = ran r (run r start first q.0) m same in
      (q.0, text_of_items t q.0 q.1, w.0, q.2, w.1)

  pub read_of_items : (l : Lists) (is : List Item) (y : Progress) → Every ProperItem is
      → run (rules_of d l) start first is ≡ Ok y
      → read d first (written_all (λ i. written (says i)) is) l ≡ Ok (depot (rules_of d l) y)
  read_of_items l is y h e =
      let r = rules_of d l in
      ap (reads_on (depot r start) first) (lines_items is h) ∙ reads_items r start first is h ∙ ap (onto r) e

  pub filled_of_items : (l : Lists) (is : List Item) (y : Progress) → Every ProperItem is
      → run (rules_of d l) start first is ≡ Ok y
      → filled next ended puts (beginning d l) first (lines (written_all (λ i. written (says i)) is)) l
      ≡ wrote (rules_of d l) start first l is
  filled_of_items l is y h e =
      let r = rules_of d l in
      ap (λ ls. filled next ended puts (depot r start) first ls l) (lines_items is h) ∙ filled_items r start first l is h
