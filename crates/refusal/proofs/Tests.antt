-- Searches for the first that fails, what it says that none was found, and tests one after another.
use Rattle.std.proofs.Common.{◌≡◌, ℕ, zero, suc, ◌+◌, ◌<◌, ◌≤◌, Bool, true, false, leb, List, [], ◌∷◌, length, get_or, drop, position, is_some, is_ok, Some, None, Ok, Err, Decides, Option, Result, sym, refl, ap, ◌∙◌, inl, inr, suc-le-suc, arith}
use Rattle.std.specs.List.{AllByRecursion as Every, position_from}
use Rattle.std.proofs.Math.Bool.{not}
use Rattle.std.proofs.ByRecursion.{All-weaker}
use Rattle.std.proofs.lemmas.List.{at_drop_more, at_drop_all}
use Rattle.std.proofs.lemmas.Iterator.Adapters.{position_from-zero}
use Rattle.std.proofs.lemmas.Bool.{cases_Bool, leb-true, le-leb, and_parts, and_from, true≢false, false≢true, both_ways, cond-true, cond-false}
use Rattle.refusal.specs.declared.reason.Refusal.{Refusal}
use Rattle.refusal.specs.Tellings.{Telling, told}
use Rattle.refusal.specs.Tests.{between, first_bad, or_else, FirstFailure, unless}

pub between-says : (low high n : ℕ) → between low high n ≡ true → (low ≤ n) × (n ≤ high)
between-says low high n e =
    let p = and_parts (leb low n) (leb n high) e in (leb-true low n p.0, leb-true n high p.1)

pub says-between : (low high n : ℕ) → low ≤ n → n ≤ high → between low high n ≡ true
says-between low high n a b = and_from (leb low n) (leb n high) (le-leb low n a) (le-leb n high b)

-- the library's search for the first that passes a test finds the first that fails its opposite
module _ {A : Type 0} (bad ok : A → Bool) (apart : (x : A) → bad x ≡ not (ok x)) where
  bad_from : (n : ℕ) (xs : List A) → position_from bad n xs ≡ first_bad ok n xs
  bad_from n [] = refl
  bad_from n (x ∷ xs) =
      elim (cases_Bool (ok x)) [ inl t ↦ rw (apart x, t) (bad_from (n + 1) xs) | inr f ↦ rw (apart x, f) ]

  pub position_bad : (xs : List A) → position bad xs ≡ first_bad ok 0 xs
  position_bad xs = position_from-zero bad xs ∙ bad_from 0 xs

-- a search finds nothing exactly when all pass
module _ {A : Type 0} (ok : A → Bool) where
  pub all_pass : (n : ℕ) (xs : List A) → first_bad ok n xs ≡ None → Every (λ x. ok x ≡ true) xs
  all_pass n [] e = tt
  all_pass n (x ∷ xs) e =
      elim (cases_Bool (ok x)) [
        | inl t ↦ (t, all_pass (n + 1) xs (rw t at e))
        | inr f ↦ absurd (true≢false (ap is_some (rw f at e)))
      ]

  pub none-fails : (n : ℕ) (xs : List A) → Every (λ x. ok x ≡ true) xs → first_bad ok n xs ≡ None
  none-fails n [] h = refl
  none-fails n (x ∷ xs) h = rw h.0 (none-fails (n + 1) xs h.1)

-- the same of what the test decides, and that a search finds the first
module _ {A : Type 0} (ok : A → Bool) (P : A → Type 0) (each : (x : A) → Decides (ok x) (P x)) where
  pub all_hold : (n : ℕ) (xs : List A) → first_bad ok n xs ≡ None → Every P xs
  all_hold n xs e = All-weaker (λ x. ok x ≡ true) P (λ x. (each x).0) xs (all_pass ok n xs e)

  pub hold_all : (n : ℕ) (xs : List A) → Every P xs → first_bad ok n xs ≡ None
  hold_all n xs h = none-fails ok n xs (All-weaker P (λ x. ok x ≡ true) (λ x. (each x).1) xs h)

  pub bad_first : (d : A) (n i : ℕ) (xs : List A) → first_bad ok n xs ≡ Some i
      → (k : ℕ) × (i ≡ n + k) × FirstFailure (length xs) (λ j. P (get_or xs j d)) k
  bad_first d n i [] e = absurd (false≢true (ap is_some e))
  bad_first d n i (x ∷ xs) e =
      elim (cases_Bool (ok x)) [
        | inl t ↦
            let r = bad_first d (n + 1) i xs (rw t at e) in (
              suc r.0,
              omega (arith, r.1),
              record {
                within = suc-le-suc r.2.within;
                fails = r.2.fails;
                before = earlier r.0 ((each x).0 t) r.2.before;
              },
            )
        | inr f ↦ (
          0,
          here n i (rw f at e),
          record {
            within = omega arith;
            fails = λ h. both_ways (ok x) f ((each x).1 h);
            before = λ j l. absurd (omega arith);
          },
        )
      ]
    where
      here : (n i : ℕ) → ◌≡◌ {A = Option ℕ} (Some n) (Some i) → i ≡ n + 0
      here n i e = let q : i ≡ n = cc in omega arith

      earlier : (k : ℕ) → P x → ((j : ℕ) → j < k → P (get_or xs j d)) → (j : ℕ) → j < suc k → P (get_or (x ∷ xs) j d)
      earlier k h before zero l = h
      earlier k h before (suc j) (suc-le-suc l) = before j l

-- one search after another
pub or_else_none : (a b : Option ℕ) → or_else a b ≡ None → (a ≡ None) × (b ≡ None)
or_else_none None b e = (refl, e)
or_else_none (Some i) b e = absurd (true≢false (ap is_some e))

pub none-or_else : (a b : Option ℕ) → a ≡ None → b ≡ None → or_else a b ≡ None
none-or_else a b h l = rw (h, l)

-- a search that has found nothing before place i
abbrev pub Searched : {A : Type 0} → (A → Bool) → List A → ℕ → Type 0
Searched ok xs i = first_bad ok i (drop i xs) ≡ first_bad ok 0 xs

-- one turn of a search, and its two ends
module _ {A : Type 0} (ok : A → Bool) (xs : List A) (i : ℕ) (so_far : Searched ok xs i) where
  pub search_on : (d : A) → i < length xs → ok (get_or xs i d) ≡ true → Searched ok xs (i + 1)
  search_on d h e = sym (at_drop_more (first_bad ok i) xs i d h ∙ cond-true (ok (get_or xs i d)) _ _ e) ∙ so_far

  pub search_found : (d : A) → i < length xs → ok (get_or xs i d) ≡ false → Some i ≡ first_bad ok 0 xs
  search_found d h e = sym (at_drop_more (first_bad ok i) xs i d h ∙ cond-false (ok (get_or xs i d)) _ _ e) ∙ so_far

  pub search_ended : length xs ≤ i → None ≡ first_bad ok 0 xs
  search_ended h = sym (at_drop_all (first_bad ok i) xs i h) ∙ so_far

-- an answer is acceptance exactly when each of its tests found nothing
module _ {A : Type 0} (refused : ℕ → Telling) where
  pub unless_ok : (o : Option ℕ) (next : Result A Telling) → is_ok (unless refused o next) ≡ true → (o ≡ None) × (is_ok next ≡ true)
  unless_ok None next e = (refl, e)
  unless_ok (Some i) next e = absurd (false≢true e)

  -- and a refusal with another number comes from a later test
  pub unless_err : (o : Option ℕ) (next : Result A Telling) (e : Telling) → unless refused o next ≡ Err e
      → ((i : ℕ) → (refused i).number ≡ e.number → ⊥) → next ≡ Err e
  unless_err None next e q other = q
  unless_err (Some i) next e q other = absurd (other i (told-number (refused i) e q))
    where
      told-number : (t e : Telling) → ◌≡◌ {A = Result A Telling} (Err t) (Err e) → t.number ≡ e.number
      told-number t e q = cc

  -- one with the same number from this test, or from a later one
  pub unless_here : (o : Option ℕ) (next : Result A Telling) (i : ℕ) → unless refused o next ≡ Err (refused i)
      → (next ≡ Err (refused i) → ⊥) → ((j k : ℕ) → refused j ≡ refused k → j ≡ k) → o ≡ Some i
  unless_here None next i q later apart = absurd (later q)
  unless_here (Some j) next i q later apart = ap Some (apart j i (same (refused j) (refused i) q))
    where
      same : (t e : Telling) → ◌≡◌ {A = Result A Telling} (Err t) (Err e) → t ≡ e
      same t e q = cc

  pub ok_unless : (o : Option ℕ) (next : Result A Telling) → o ≡ None → unless refused o next ≡ next
  ok_unless o next e = ap (λ (q : Option ℕ). unless refused q next) e

pub told_ok : {A : Type 0} (r : Result A Refusal) → is_ok (told r) ≡ is_ok r
told_ok (Ok x) = refl
told_ok (Err e) = refl
