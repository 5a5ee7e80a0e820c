-- A verdict is acceptance exactly where the inequalities hold, its bound is the first entry, and what it names is the
-- first that fails.
use Rattle.std.proofs.Common.{◌≡◌, ℕ, zero, suc, ◌+◌, ◌*◌, ◌<◌, ◌≤◌, Bool, true, eqb, leb, List, [], ◌∷◌, length, get_or, take, is_ok, Some, None, Ok, Err, Decides, Option, Result, sym, refl, ap, ◌∙◌, subst, suc-le-suc, add-zero, zero-add, arith, length-append}
use Rattle.std.specs.List.{AllByRecursion as Every}
use Rattle.std.proofs.ByRecursion.{All-get_or}
use Rattle.std.proofs.lemmas.Bool.{leb-true, le-leb, eqb-true, eq-eqb}
use Rattle.refusal.specs.declared.reason.Refusal.{Refusal}
use Rattle.refusal.specs.Tellings.{Telling, at_vector, told}
use Rattle.refusal.specs.Tests.{first_bad, first_false, or_else, FirstFailure, unless}
use Rattle.refusal.proofs.Tests.{all_pass, none-fails, all_hold, hold_all, bad_first, or_else_none, none-or_else, unless_ok, ok_unless, unless_err, unless_here, told_ok}
use Rattle.process.specs.declared.place.Move.{Move}
use Rattle.process.specs.Process.{Process, joined}
use Rattle.process.specs.Queries.{moves_of}
use Rattle.process.proofs.Walks.{span_last}
use Rattle.bounds.specs.Vectors.{value_at, weight_to_target, carried}
use Rattle.kinds.specs.declared.state_kind.StateKind.{StateKind}
use Rattle.kinds.specs.declared.state_kind.StateKind.TheVariants.{Cap, Floor, Delay}
use Rattle.kinds.specs.StateKinds.{limit_of, holds_at, FairAt}
use Rattle.vectors.specs.Verdicts.{first_failing, judgement, verdict, floor_verdict}
use Rattle.vectors.specs.Accepts.{Accepted, AtOption, FirstNamed}

pub decides_leb : (a b : ℕ) → Decides (leb a b) (a ≤ b)
decides_leb a b = (leb-true a b, le-leb a b)

holds_decides : (k : StateKind) (d n : ℕ) (z : List ℕ) (s : ℕ) (ms : List Move)
    → Decides (holds_at k d n z s ms) (FairAt k d n z s ms)
holds_decides Cap d n z s ms =
    rw zero-add (decides_leb (1000000 * weight_to_target ms + carried n z ms) (d * value_at z s))
holds_decides Floor d n z s ms =
    rw zero-add (decides_leb (d * value_at z s) (1000000 * weight_to_target ms + carried n z ms))
holds_decides Delay d n z s ms =
    let e : 0 * weight_to_target ms + carried n z ms ≡ carried n z ms = omega arith in
    rw e (decides_leb (d + carried n z ms) (d * value_at z s))

-- a search through all options
module _ (ok : ℕ → List Move → Bool) (P : ℕ → List Move → Type 0)
    (each : (s : ℕ) (ms : List Move) → Decides (ok s ms) (P s ms)) where
  none_failing : (s n : ℕ) (p : Process) → first_failing ok s n p ≡ None → (i : ℕ) → i < length p → Every (P (s + i)) (get_or p i [])
  none_failing s n [] e i h = elim h [ ]
  none_failing s n (os ∷ p) e zero h =
      rw add-zero
      (all_hold (ok s) (P s) (each s) n os
      (or_else_none (first_bad (ok s) n os) (first_failing ok (s + 1) (n + length os) p) e).0)
  none_failing s n (os ∷ p) e (suc i) (suc-le-suc h) =
      let q : s + suc i ≡ s + 1 + i = omega arith in
      rw q
      (none_failing (s + 1) (n + length os) p
      (or_else_none (first_bad (ok s) n os) (first_failing ok (s + 1) (n + length os) p) e).1 i h)

  all_fair : (s n : ℕ) (p : Process) → ((i : ℕ) → i < length p → Every (P (s + i)) (get_or p i [])) → first_failing ok s n p ≡ None
  all_fair s n [] h = refl
  all_fair s n (os ∷ p) h =
      none-or_else (first_bad (ok s) n os) (first_failing ok (s + 1) (n + length os) p)
      (hold_all (ok s) (P s) (each s) n os (rw add-zero at (h 0 (omega arith))))
      (all_fair (s + 1) (n + length os) p
      (λ i l. let q : s + suc i ≡ s + 1 + i = omega arith in rw q at (h (suc i) (suc-le-suc l))))

  -- option k of state t, which is number i, fails, and none with a smaller number does
  record Found (s n : ℕ) (p : Process) (i : ℕ) : Type 0 where
    state : ℕ
    option : ℕ
    in_state : state < length p
    in_option : option < length (get_or p state [])
    number : i ≡ n + (length (joined (take state p)) + option)
    fails : P (s + state) (moves_of p state option) → ⊥
    before : (t k : ℕ) → t < length p → k < length (get_or p t []) → n + (length (joined (take t p)) + k) < i
        → P (s + t) (moves_of p t k)

  found : (s n : ℕ) (p : Process) (i : ℕ) → first_failing ok s n p ≡ Some i → Found s n p i
  found s n [] i e = let z : ◌≡◌ {A = ℕ} 0 1 = cc in absurd (omega arith)
  found s n (os ∷ p) i e = by_state (first_bad (ok s) n os) refl (found (s + 1) (n + length os) p i)
    where
      by_state : (o : Option ℕ) → first_bad (ok s) n os ≡ o
          → (first_failing ok (s + 1) (n + length os) p ≡ Some i → Found (s + 1) (n + length os) p i) → Found s n (os ∷ p) i
      by_state (Some j) q rest =
          let e' : or_else (Some j) (first_failing ok (s + 1) (n + length os) p) ≡ Some i =
          ap (λ x. or_else x (first_failing ok (s + 1) (n + length os) p)) (sym q) ∙ e in
          let same : j ≡ i = cc in
          let r = bad_first (ok s) (P s) (each s) [] n i os (q ∙ ap Some same) in
          record {
            state = 0;
            option = r.0;
            in_state = omega arith;
            in_option = r.2.within;
            number = omega (arith, r.1);
            fails = rw add-zero r.2.fails;
            before = earlier r.0 r.1 r.2.within r.2.before;
          }
        where
          earlier : (m : ℕ) → i ≡ n + m → m < length os → ((j : ℕ) → j < m → P s (get_or os j []))
              → (t k : ℕ) → t < length (os ∷ p) → k < length (get_or (os ∷ p) t [])
              → n + (length (joined (take t (os ∷ p))) + k) < i → P (s + t) (moves_of (os ∷ p) t k)
          earlier m a b before zero k h l u = rw add-zero (before k (omega arith))
          earlier m a b before (suc t) k h l u = absurd (omega (arith, length-append os (joined (take t p))))
      by_state None q rest =
          let e' : first_failing ok (s + 1) (n + length os) p ≡ Some i =
          ap (λ x. or_else x (first_failing ok (s + 1) (n + length os) p)) (sym q) ∙ e in
          let r = rest e' in
          let on : s + suc r.state ≡ s + 1 + r.state = omega arith in
          record {
            state = suc r.state;
            option = r.option;
            in_state = suc-le-suc r.in_state;
            in_option = r.in_option;
            number = omega (arith, r.number, length-append os (joined (take r.state p)));
            fails = rw on r.fails;
            before = earlier (all_hold (ok s) (P s) (each s) n os q) r.before;
          }
        where
          earlier : Every (P s) os
              → ((t k : ℕ) → t < length p → k < length (get_or p t []) → n + length os + (length (joined (take t p)) + k) < i
              → P (s + 1 + t) (moves_of p t k))
              → (t k : ℕ) → t < length (os ∷ p) → k < length (get_or (os ∷ p) t [])
              → n + (length (joined (take t (os ∷ p))) + k) < i → P (s + t) (moves_of (os ∷ p) t k)
          earlier all before zero k h l u = rw add-zero (All-get_or (P s) os k [] l all)
          earlier all before (suc t) k (suc-le-suc h) l u =
              let on : s + suc t ≡ s + 1 + t = omega arith in
              rw on (before t k h l (omega (arith, length-append os (joined (take t p)))))

  pub failing_first : (p : Process) (i : ℕ) → first_failing ok 0 0 p ≡ Some i
      → FirstFailure (length (joined p)) (AtOption p P) i
  failing_first p i e =
      let r = found 0 0 p i e in
      record {
        within = omega (arith, r.number, r.in_option, span_last p r.state r.in_state);
        fails =
            λ h. r.fails (rw zero-add (h r.state r.option r.in_state r.in_option (omega (arith, r.number))));
        before = λ j l s k h u q. rw zero-add at (r.before s k h u (omega arith));
      }

-- the tests of a judgement
module _ (k : StateKind) (d : ℕ) (p : Process) (z : List ℕ) where
  abbrev entries : Option ℕ
  entries = first_bad (λ x. leb x (limit_of k)) 0 z

  abbrev options : Option ℕ
  options = first_failing (holds_at k d (length p) z) 0 0 p

  abbrev bound : Result ℕ Telling
  bound = Ok (value_at z 0)

  fair-each : (s : ℕ) (ms : List Move) → Decides (holds_at k d (length p) z s ms) (FairAt k d (length p) z s ms)
  fair-each = holds_decides k d (length p) z

  judged : is_ok (judgement k d p z) ≡ true → length z ≡ length p → Accepted k d p z × (judgement k d p z ≡ Ok (value_at z 0))
  judged e l =
      let u = unless_ok (at_vector 42) entries (unless (at_vector 43) options bound) e in
      let v = unless_ok (at_vector 43) options bound u.1 in (
        record {
          one_each = l;
          limited = all_hold (λ x. leb x (limit_of k)) (λ x. x ≤ limit_of k) (λ x. decides_leb x (limit_of k)) 0 z u.0;
          fair =
              λ s h. rw zero-add
              at (none_failing (holds_at k d (length p) z) (FairAt k d (length p) z) fair-each 0 0 p v.0 s h);
        },
        ok_unless (at_vector 42) entries (unless (at_vector 43) options bound) u.0
            ∙ ok_unless (at_vector 43) options bound v.0,
      )

  judges : Accepted k d p z → judgement k d p z ≡ Ok (value_at z 0)
  judges h =
      ok_unless (at_vector 42) entries (unless (at_vector 43) options bound)
      (hold_all (λ x. leb x (limit_of k)) (λ x. x ≤ limit_of k) (λ x. decides_leb x (limit_of k)) 0 z h.limited)
      ∙ ok_unless (at_vector 43) options bound
      (all_fair (holds_at k d (length p) z) (FairAt k d (length p) z) fair-each 0 0 p (λ i l. rw zero-add (h.fair i l)))

  -- what 42 and 43 name
  names : FirstNamed k d p z (judgement k d p z)
  names =
      record {
        entry =
            λ i e.
            from_entries i
            (unless_here (at_vector 42) entries (unless (at_vector 43) options bound) i e
            (λ q. later i (unless_err (at_vector 43) options bound (at_vector 42 i) q (λ j e. omega arith))) apart);
        option =
            λ i e.
            failing_first (holds_at k d (length p) z) (FairAt k d (length p) z) fair-each p i
            (unless_here (at_vector 43) options bound i
            (unless_err (at_vector 42) entries (unless (at_vector 43) options bound) (at_vector 43 i) e (λ j e. omega arith))
            (λ q. later i q) apart);
      }
    where
      later : {n : ℕ} (i : ℕ) → bound ≡ Err (at_vector n i) → ⊥
      later i q = let z : ◌≡◌ {A = ℕ} 0 1 = cc in omega arith

      apart : {n : ℕ} (i j : ℕ) → at_vector n i ≡ at_vector n j → i ≡ j
      apart i j q = ap (λ t. t.place) q

      from_entries : (i : ℕ) → entries ≡ Some i → FirstFailure (length z) (λ j. value_at z j ≤ limit_of k) i
      from_entries i q =
          let r = bad_first (λ x. leb x (limit_of k)) (λ x. x ≤ limit_of k) (λ x. decides_leb x (limit_of k)) 0 0 i z q in
          let e : r.0 ≡ i = omega (arith, r.1) in
          subst (FirstFailure (length z) (λ j. value_at z j ≤ limit_of k)) e r.2

  -- for the contract of `judge`
  pub judgement_decides : (r : Result ℕ Refusal) → told r ≡ judgement k d p z → length z ≡ length p
      → Decides (is_ok r) (Accepted k d p z)
  judgement_decides r e l = (
    λ t. (judged (ap is_ok (sym e) ∙ told_ok r ∙ t) l).0,
    λ h. sym (told_ok r) ∙ ap is_ok (e ∙ judges h),
  )

  pub judgement_names : (r : Result ℕ Refusal) → told r ≡ judgement k d p z → FirstNamed k d p z (told r)
  judgement_names r e = subst (FirstNamed k d p z) (sym e) names

-- a test of lengths before another answer
module _ {A : Type 0} (tests : List Bool) (next : Result A Telling) where
  pub levels_pass : is_ok (unless (at_vector 41) (first_false tests) next) ≡ true → Every (λ t. t ≡ true) tests × (is_ok next ≡ true)
  levels_pass e =
      let u = unless_ok (at_vector 41) (first_false tests) next e in (all_pass (λ t. t) 0 tests u.0, u.1)

  pub pass_levels : Every (λ t. t ≡ true) tests → unless (at_vector 41) (first_false tests) next ≡ next
  pass_levels h = ok_unless (at_vector 41) (first_false tests) next (none-fails (λ t. t) 0 tests h)

module _ (k : StateKind) (d : ℕ) (p : Process) (z : List ℕ) where
  abbrev long : List Bool
  long = eqb (length z) (length p) ∷ []

  pub verdict-sound : is_ok (verdict k d p z) ≡ true → Accepted k d p z × (verdict k d p z ≡ Ok (value_at z 0))
  verdict-sound e =
      let u = levels_pass long (judgement k d p z) e in
      let j = judged k d p z u.1 (eqb-true (length z) (length p) u.0.0) in
      (j.0, pass_levels long (judgement k d p z) u.0 ∙ j.1)

  pub verdict_accepts : Accepted k d p z → verdict k d p z ≡ Ok (value_at z 0)
  verdict_accepts h =
      pass_levels long (judgement k d p z) (eq-eqb (length z) (length p) h.one_each, tt) ∙ judges k d p z h

module _ (d : ℕ) (p : Process) (z : List ℕ) (m : ℕ) where
  abbrev both_long : List Bool
  both_long = eqb (length z) (length p) ∷ (eqb m (length p) ∷ [])

  pub floor-sound : is_ok (floor_verdict d p z m) ≡ true
      → Accepted Floor d p z × (m ≡ length p) × (floor_verdict d p z m ≡ Ok (value_at z 0))
  floor-sound e =
      let u = levels_pass both_long (judgement Floor d p z) e in
      let j = judged Floor d p z u.1 (eqb-true (length z) (length p) u.0.0) in
      (j.0, eqb-true m (length p) u.0.1.0, pass_levels both_long (judgement Floor d p z) u.0 ∙ j.1)

  pub floor_accepts : Accepted Floor d p z → m ≡ length p → floor_verdict d p z m ≡ Ok (value_at z 0)
  floor_accepts h l =
      pass_levels both_long (judgement Floor d p z)
      (eq-eqb (length z) (length p) h.one_each, (eq-eqb m (length p) l, tt))
      ∙ judges Floor d p z h
