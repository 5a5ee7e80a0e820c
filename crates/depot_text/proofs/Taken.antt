-- An item is taken exactly where it meets what it asks, and where it leads then.
use Rattle.std.proofs.Common.{◌≡◌, ℕ, Bool, true, false, cond, ltb, leb, Ok, Err, Result, refl, ◌∙◌}
use Rattle.std.proofs.lemmas.Bool.{cond-true}
use Rattle.refusal.specs.Tellings.{Telling}
use Rattle.refusal.specs.Tests.{between}
use Rattle.depot_text.specs.declared.item.Item.{Item}
use Rattle.depot_text.specs.declared.item.Item.TheVariants as item
use Rattle.depot_text.specs.declared.progress.Rules.{Rules}
use Rattle.depot_text.specs.declared.progress.Progress.{Progress}
use Rattle.depot_text.specs.Machine.{at_start, at_kind, at_to, closed, exists, on_item}
use Rattle.depot_text.specs.Machine.{may_state, may_choice, may_to, may_end}
use Rattle.depot_text.specs.Machine.{after_kind, after_states, after_state, after_choice}
use Rattle.depot_text.specs.Machine.{after_to, after_weight, after_end}

abbrev pub Asks : Rules → Progress → Item → Type 0
Asks r s item.Kind = at_start s.phase ≡ true
Asks r s (item.States n) = (at_kind s.phase ≡ true) × (between 1 4096 n ≡ true) × (leb n r.states ≡ true)
Asks r s (item.State k) = (may_state s k ≡ true) × (closed s ≡ true)
Asks r s (item.Choice j) = (may_choice s j ≡ true) × (ltb s.options r.options ≡ true) × (closed s ≡ true)
Asks r s (item.To p) = (may_to s ≡ true) × (exists s.states p ≡ true) × (ltb s.moves r.moves ≡ true)
Asks r s (item.Weight w) = (at_to s.phase ≡ true) × (leb w r.scale ≡ true)
Asks r s item.End = (may_end s ≡ true) × (closed s ≡ true)
Asks r s item.Other = ⊥

abbrev pub after_item : Rules → Progress → Item → Progress
after_item r s item.Kind = after_kind s
after_item r s (item.States n) = after_states s n
after_item r s (item.State k) = after_state s k
after_item r s (item.Choice j) = after_choice r.scale s
after_item r s (item.To p) = after_to s p
after_item r s (item.Weight w) = after_weight s w
after_item r s item.End = after_end s
after_item r s item.Other = s

abbrev R : Type 0
R = Result Progress Telling

pub takes : (r : Rules) (s : Progress) (at : ℕ) (i : Item) → Asks r s i → on_item r s at i ≡ Ok (after_item r s i)
takes r s at item.Kind a = cond-true _ _ _ a
takes r s at (item.States n) a = cond-true _ _ _ a.0 ∙ cond-true _ _ _ a.1 ∙ cond-true _ _ _ a.2
takes r s at (item.State k) a = cond-true _ _ _ a.0 ∙ cond-true _ _ _ a.1
takes r s at (item.Choice j) a = cond-true _ _ _ a.0 ∙ cond-true _ _ _ a.1 ∙ cond-true _ _ _ a.2
takes r s at (item.To p) a = cond-true _ _ _ a.0 ∙ cond-true _ _ _ a.1 ∙ cond-true _ _ _ a.2
takes r s at (item.Weight w) a = cond-true _ _ _ a.0 ∙ cond-true _ _ _ a.1
takes r s at item.End a = cond-true _ _ _ a.0 ∙ cond-true _ _ _ a.1
takes r s at item.Other a = absurd a

-- chains of demands that are met
one : {a : Bool} (e : Telling) {next : R} {y : Progress} → cond a next (Err e) ≡ Ok y → (a ≡ true) × (next ≡ Ok y)
one {a = true} e h = (refl, h)
one {a = false} e h = cc

two : {a b : Bool} (e f : Telling) {x y : Progress} → cond a (cond b (Ok x) (Err f)) (Err e) ≡ Ok y
    → ((a ≡ true) × (b ≡ true)) × (x ≡ y)
two e f h = let p = one e h in let q = one f p.1 in let same = q.1 in ((p.0, q.0), cc)

three : {a b c : Bool} (e f g : Telling) {x y : Progress}
    → cond a (cond b (cond c (Ok x) (Err g)) (Err f)) (Err e) ≡ Ok y
    → ((a ≡ true) × (b ≡ true) × (c ≡ true)) × (x ≡ y)
three e f g h = let p = one e h in let q = two f g p.1 in ((p.0, q.0.0, q.0.1), q.1)

pub taken : (r : Rules) (s : Progress) (at : ℕ) (i : Item) (y : Progress) → on_item r s at i ≡ Ok y
    → Asks r s i × (after_item r s i ≡ y)
taken r s at item.Kind y e = let p = one _ e in let same = p.1 in (p.0, cc)
taken r s at (item.States n) y e = three _ _ _ e
taken r s at (item.State k) y e = two _ _ e
taken r s at (item.Choice j) y e = three _ _ _ e
taken r s at (item.To p) y e = three _ _ _ e
taken r s at (item.Weight w) y e = two _ _ e
taken r s at item.End y e = two _ _ e
taken r s at item.Other y e = cc
