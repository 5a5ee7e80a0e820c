-- The items of a vector text and their lines: what each says, and the text cut into them.
use Rattle.std.proofs.Common.{◌≡◌, ℕ, ◌^◌, ◌<◌, Bool, true, List, [], ◌∷◌, ◌++◌, map, Some, None, Option, codes, decimal, sym, refl, ap, ◌∙◌, subst, append_assoc, arith, length-append}
use Rattle.std.specs.List.{flat_map as written_all, AllByRecursion as Every, find}
use Rattle.std.specs.Option.{IfSome}
use Rattle.std.specs.Str.{bytes_eq}
use Rattle.std.proofs.lemmas.Slice.Eq.{bytes_eq-Decides}
use Rattle.std.proofs.lemmas.Bool.{cond_both, and_parts}
use Rattle.lines.specs.Lines.{Said, says_word, says_number}
use Rattle.lines.specs.Writing.{written, Proper}
use Rattle.lines.proofs.Written.{named_name, parsed-written, first-written, after-written, written-some}
use Rattle.passes.specs.Texts.{lines}
use Rattle.passes.specs.Passes.{on_said, on_line}
use Rattle.passes.proofs.Cuts.{lines_cut}
use Rattle.vector_text.specs.declared.format.Kind.{Kind}
use Rattle.vector_text.specs.declared.format.Kind.TheVariants.{Cap, Floor, Delay, Hope, Risk}
use Rattle.vector_text.specs.declared.item.Item.{Item}
use Rattle.vector_text.specs.declared.item.Item.TheVariants as item
use Rattle.vector_text.specs.declared.format.Vector.{Vector}
use Rattle.vector_text.specs.Words.{kind_word, kinds, kind_named}
use Rattle.vector_text.specs.Machine.{vector_of, word_item, item_of, on_item, next}
use Rattle.vector_text.specs.Spelling.{entry_line, render}

-- what an item's line says, and the line
abbrev pub says : Item → Said
says (item.Vector k) = says_word (codes "vector") (kind_word k)
says (item.Entry n) = says_number (codes "entry") (decimal n) n
says item.End = says_word (codes "end") (codes "vector")
says item.Other = says_word [] []

abbrev pub line : Item → List ℕ
line i = written (says i)

-- an item of a vector, whose entry has 32 bits
abbrev pub ProperItem : Item → Type 0
ProperItem (item.Vector k) = Unit {0}
ProperItem (item.Entry n) = n < 2 ^ 32
ProperItem item.End = Unit {0}
ProperItem item.Other = ⊥

-- what an item's line says is proper, and means the item
says-proper : (i : Item) → ProperItem i → Proper (says i)
says-proper (item.Vector Cap) h = (named_name (codes "vector") refl, named_name (codes "cap") refl)
says-proper (item.Vector Floor) h = (named_name (codes "vector") refl, named_name (codes "floor") refl)
says-proper (item.Vector Delay) h = (named_name (codes "vector") refl, named_name (codes "delay") refl)
says-proper (item.Vector Hope) h = (named_name (codes "vector") refl, named_name (codes "hope") refl)
says-proper (item.Vector Risk) h = (named_name (codes "vector") refl, named_name (codes "risk") refl)
says-proper (item.Entry n) h = (named_name (codes "entry") refl, refl, h)
says-proper item.End h = (named_name (codes "end") refl, named_name (codes "vector") refl)
says-proper item.Other h = absurd h

means_says : (i : Item) → ProperItem i → item_of (says i) ≡ i
means_says (item.Vector Cap) h = refl
means_says (item.Vector Floor) h = refl
means_says (item.Vector Delay) h = refl
means_says (item.Vector Hope) h = refl
means_says (item.Vector Risk) h = refl
means_says (item.Entry n) h = refl
means_says item.End h = refl
means_says item.Other h = absurd h

pub on_its_line : (v : Vector) (at : ℕ) (i : Item) → ProperItem i → on_line next v at (line i) ≡ on_item v at i
on_its_line v at i h =
    ap (on_said next v at) (parsed-written (says i) (says-proper i h)) ∙ ap (on_item v at) (means_says i h)

-- and a line that means an item says what that item's line says
abbrev Means : Said → Item → Type 0
Means s i = (i ≡ item.Other → ⊥) → (s ≡ says i) × ProperItem i

bytes_same : (a b : List ℕ) → bytes_eq a b ≡ true → a ≡ b
bytes_same a b t = (bytes_eq-Decides a b).0 t

-- what is found passes
found_passes : {X : Type 0} (p : X → Bool) (xs : List X) → IfSome (find p xs) (λ x. p x ≡ true)
found_passes p [] = tt
found_passes p (x ∷ xs) =
    cond_both (p x) (Some x) (find p xs) (λ o. IfSome o (λ y. p y ≡ true)) (λ t. t) (λ _. found_passes p xs)

word_means : (key v : List ℕ) → Means (says_word key v) (word_item key v)
word_means key v =
    cond_both _ item.End _ P
    (λ t _. let p = and_parts (bytes_eq key (codes "end")) _ t in (both (codes "end") (codes "vector") p.0 p.1, tt))
    (λ _. cond_both _ (vector_of (kind_named v)) item.Other P
    (λ t. named t (kind_named v) (found_passes (λ k. bytes_eq v (kind_word k)) kinds))
    (λ _ g. absurd (g refl)))
  where
    P : Item → Type 0
    P i = Means (says_word key v) i

    both : (k w : List ℕ) → bytes_eq key k ≡ true → bytes_eq v w ≡ true → says_word key v ≡ says_word k w
    both k w t u = λ i. says_word (bytes_same key k t i) (bytes_same v w u i)

    named : bytes_eq key (codes "vector") ≡ true → (o : Option Kind)
        → IfSome o (λ k. bytes_eq v (kind_word k) ≡ true) → P (vector_of o)
    named t None u g = absurd (g refl)
    named t (Some k) u g = (both (codes "vector") (kind_word k) t u, tt)

number_means : (key : List ℕ) (n : ℕ) → n < 2 ^ 32
    → Means (says_number key (decimal n) n) (item_of (says_number key (decimal n) n))
number_means key n h =
    cond_both _ (item.Entry n) item.Other (λ i. Means (says_number key (decimal n) n) i)
    (λ t _. (ap (λ x. says_number x (decimal n) n) (bytes_same key (codes "entry") t), h))
    (λ _ g. absurd (g refl))

pub said_item : (s : Said) → Proper s → (item_of s ≡ item.Other → ⊥) → (s ≡ says (item_of s)) × ProperItem (item_of s)
said_item (says_word key v) h = word_means key v
said_item (says_number key v n) h =
    subst (λ x. Means (says_number key x n) (item_of (says_number key x n))) (sym h.1) (number_means key n h.2)

-- the lines of a text that begins with lines of items
pub lines_line : (i : Item) (rest : List ℕ) → ProperItem i → lines (line i ++ rest) ≡ line i ∷ lines rest
lines_line i rest h =
    let proper = says-proper i h in
    let some = written-some (says i) in
    let long = length-append (line i) rest in
    lines_cut (line i ++ rest) (omega arith)
    ∙ (λ k. first-written (says i) rest proper k ∷ lines (after-written (says i) rest proper k))

lines-entries : (es rest : List ℕ) → Every (λ n. n < 2 ^ 32) es
    → lines (written_all entry_line es ++ rest) ≡ map entry_line es ++ lines rest
lines-entries [] rest h = refl
lines-entries (e ∷ es) rest h =
    ap lines (append_assoc (entry_line e) (written_all entry_line es) rest)
    ∙ lines_line (item.Entry e) (written_all entry_line es ++ rest) h.0
    ∙ ap (λ ls. entry_line e ∷ ls) (lines-entries es rest h.1)

-- a vector's lines
abbrev pub vector_lines : Kind → List ℕ → List (List ℕ) → List (List ℕ)
vector_lines k es rest = line (item.Vector k) ∷ (map entry_line es ++ (line item.End ∷ rest))

render-rest : (k : Kind) (es rest : List ℕ)
    → render k es ++ rest ≡ line (item.Vector k) ++ (written_all entry_line es ++ (line item.End ++ rest))
render-rest k es rest =
    append_assoc (line (item.Vector k)) (written_all entry_line es ++ line item.End) rest
    ∙ ap (λ t. line (item.Vector k) ++ t) (append_assoc (written_all entry_line es) (line item.End) rest)

pub lines_vector : (k : Kind) (es rest : List ℕ) → Every (λ n. n < 2 ^ 32) es
    → lines (render k es ++ rest) ≡ vector_lines k es (lines rest)
lines_vector k es rest h =
    ap lines (render-rest k es rest)
    ∙ lines_line (item.Vector k) (written_all entry_line es ++ (line item.End ++ rest)) tt
    ∙ ap (λ ls. line (item.Vector k) ∷ ls) (lines-entries es (line item.End ++ rest) h)
    ∙ ap (λ ls. line (item.Vector k) ∷ (map entry_line es ++ ls)) (lines_line item.End rest tt)

-- and the text of such lines
whole-entries : (es : List ℕ) (ls : List (List ℕ))
    → written_all (λ l. l) (map entry_line es ++ ls) ≡ written_all entry_line es ++ written_all (λ l. l) ls
whole-entries [] ls = refl
whole-entries (e ∷ es) ls =
    ap (λ t. entry_line e ++ t) (whole-entries es ls)
    ∙ sym (append_assoc (entry_line e) (written_all entry_line es) (written_all (λ l. l) ls))

pub whole_vector : (k : Kind) (es : List ℕ) (ls : List (List ℕ))
    → written_all (λ l. l) (vector_lines k es ls) ≡ render k es ++ written_all (λ l. l) ls
whole_vector k es ls =
    ap (λ t. line (item.Vector k) ++ t) (whole-entries es (line item.End ∷ ls))
    ∙ sym (render-rest k es (written_all (λ l. l) ls))
