-- A verdict on a hope or a risk is acceptance exactly where the inequalities hold, and what it names is the first that
-- fails.
use Rattle.std.proofs.Common.{◌≡◌, ℕ, ◌+◌, ◌*◌, ◌<◌, ◌≤◌, Bool, true, eqb, leb, List, [], ◌∷◌, length, get_or, is_ok, Some, Ok, Err, Decides, Option, Result, sym, refl, ap, ◌∙◌, subst, zero-add, arith}
use Rattle.std.specs.List.{range_with_len, AllByRecursion as Every}
use Rattle.std.proofs.lemmas.List.FromFn.{length-range_with_len, get_or-range_with_len}
use Rattle.std.proofs.ByRecursion.{All-get_or, All-from_get_or}
use Rattle.std.proofs.lemmas.Bool.{eqb-true, eq-eqb}
use Rattle.refusal.specs.declared.reason.Refusal.{Refusal}
use Rattle.refusal.specs.Tellings.{Telling, at_vector, told}
use Rattle.refusal.specs.Tests.{first_bad, FirstFailure, unless}
use Rattle.refusal.proofs.Tests.{all_hold, hold_all, bad_first, unless_ok, ok_unless, unless_err, unless_here, told_ok}
use Rattle.process.specs.Process.{Process, joined}
use Rattle.bounds.specs.Vectors.{value_at, one_at, inflow, own}
use Rattle.vectors.proofs.Accepting.{decides_leb, levels_pass, pass_levels}
use Rattle.flows.specs.declared.flow.Flow.{Flow}
use Rattle.kinds.specs.declared.flow_kind.FlowKind.{FlowKind}
use Rattle.kinds.specs.declared.flow_kind.FlowKind.TheVariants.{Hope, Risk}
use Rattle.kinds.specs.FlowKinds.{state_holds, BalancedAt}
use Rattle.flows.specs.Verdicts.{flow_of, judgement, hope_verdict, risk_verdict}
use Rattle.flows.specs.Accepts.{Accepted, FirstNamed}

balanced_decides : (k : FlowKind) (d : ℕ) (p : Process) (y : List ℕ) (s : ℕ)
    → Decides (state_holds k d p y s) (BalancedAt k d p y s)
balanced_decides Hope d p y s = decides_leb (d * own p y s) (inflow p y s + d * 1000000 * one_at 0 s)
balanced_decides Risk d p y s = decides_leb (inflow p y s + d * 1000000 * one_at 0 s) (d * own p y s)

-- what holds of each number below n
below_all : (P : ℕ → Type 0) (n : ℕ) → Every P (range_with_len 0 n) → (s : ℕ) → s < n → P s
below_all P n h s l = rw (get_or-range_with_len 0 n s 0 l, zero-add) at (All-get_or P (range_with_len 0 n) s 0 (rw length-range_with_len l) h)

all_below : (P : ℕ → Type 0) (n : ℕ) → ((s : ℕ) → s < n → P s) → Every P (range_with_len 0 n)
all_below P n h =
    All-from_get_or P (range_with_len 0 n) 0
    (λ i l. let l' : i < n = rw length-range_with_len at l in rw (get_or-range_with_len 0 n i 0 l', zero-add) (h i l'))

module _ (k : FlowKind) (d : ℕ) (p : Process) (y : List ℕ) where
  abbrev entries : Option ℕ
  entries = first_bad (λ x. leb x 1073741824) 0 y

  abbrev states : Option ℕ
  states = first_bad (state_holds k d p y) 0 (range_with_len 0 (length p))

  abbrev given : Result Flow Telling
  given = Ok (flow_of p y)

  judged : is_ok (judgement k d p y) ≡ true → length y ≡ length (joined p)
      → Accepted k d p y × (judgement k d p y ≡ Ok (flow_of p y))
  judged e l =
      let u = unless_ok (at_vector 42) entries (unless (at_vector 43) states given) e in
      let v = unless_ok (at_vector 43) states given u.1 in (
        record {
          one_each = l;
          limited = all_hold (λ x. leb x 1073741824) (λ x. x ≤ 1073741824) (λ x. decides_leb x 1073741824) 0 y u.0;
          balance =
              below_all (BalancedAt k d p y) (length p)
              (all_hold (state_holds k d p y) (BalancedAt k d p y) (balanced_decides k d p y) 0 (range_with_len 0 (length p)) v.0);
        },
        ok_unless (at_vector 42) entries (unless (at_vector 43) states given) u.0
            ∙ ok_unless (at_vector 43) states given v.0,
      )

  judges : Accepted k d p y → judgement k d p y ≡ Ok (flow_of p y)
  judges h =
      ok_unless (at_vector 42) entries (unless (at_vector 43) states given)
      (hold_all (λ x. leb x 1073741824) (λ x. x ≤ 1073741824) (λ x. decides_leb x 1073741824) 0 y h.limited)
      ∙ ok_unless (at_vector 43) states given
      (hold_all (state_holds k d p y) (BalancedAt k d p y) (balanced_decides k d p y) 0 (range_with_len 0 (length p))
      (all_below (BalancedAt k d p y) (length p) h.balance))

  -- what 42 and 43 name
  names : FirstNamed k d p y (judgement k d p y)
  names =
      record {
        entry =
            λ i e.
            from_entries i
            (unless_here (at_vector 42) entries (unless (at_vector 43) states given) i e
            (λ q. later i (unless_err (at_vector 43) states given (at_vector 42 i) q (λ j e. omega arith))) apart);
        state =
            λ i e.
            from_states i
            (unless_here (at_vector 43) states given i
            (unless_err (at_vector 42) entries (unless (at_vector 43) states given) (at_vector 43 i) e (λ j e. omega arith))
            (λ q. later i q) apart);
      }
    where
      later : {n : ℕ} (i : ℕ) → given ≡ Err (at_vector n i) → ⊥
      later i q = let z : ◌≡◌ {A = ℕ} 0 1 = cc in omega arith

      apart : {n : ℕ} (i j : ℕ) → at_vector n i ≡ at_vector n j → i ≡ j
      apart i j q = ap (λ t. t.place) q

      from_entries : (i : ℕ) → entries ≡ Some i → FirstFailure (length y) (λ j. value_at y j ≤ 1073741824) i
      from_entries i q =
          let r = bad_first (λ x. leb x 1073741824) (λ x. x ≤ 1073741824) (λ x. decides_leb x 1073741824) 0 0 i y q in
          let e : r.0 ≡ i = omega (arith, r.1) in
          subst (FirstFailure (length y) (λ j. value_at y j ≤ 1073741824)) e r.2

      from_states : (i : ℕ) → states ≡ Some i → FirstFailure (length p) (BalancedAt k d p y) i
      from_states i q =
          let r = bad_first (state_holds k d p y) (BalancedAt k d p y) (balanced_decides k d p y) 0 0 i (range_with_len 0 (length p)) q in
          let e : i ≡ r.0 = omega (arith, r.1) in
          let at : (j : ℕ) → j < length p → get_or (range_with_len 0 (length p)) j 0 ≡ j =
          λ j l. get_or-range_with_len 0 (length p) j 0 l ∙ zero-add j in
          let inside : r.0 < length p = rw length-range_with_len at r.2.within in
          rw e
          record {
            within = inside;
            fails = λ h. r.2.fails (rw (at r.0 inside) h);
            before = λ j l. rw (at j (omega arith)) at (r.2.before j l);
          }

  -- for the contract of `judge`
  pub judgement_decides : (r : Result Flow Refusal) → told r ≡ judgement k d p y → length y ≡ length (joined p)
      → {t : ℕ} → t ≡ length p → Decides (is_ok r) (Accepted k d p y × (t ≡ length p))
  judgement_decides r e l q = (
    λ o. ((judged (ap is_ok (sym e) ∙ told_ok r ∙ o) l).0, q),
    λ h. sym (told_ok r) ∙ ap is_ok (e ∙ judges h.0),
  )

  pub judgement_names : (r : Result Flow Refusal) → told r ≡ judgement k d p y → FirstNamed k d p y (told r)
  judgement_names r e = subst (FirstNamed k d p y) (sym e) names

module _ (d : ℕ) (p : Process) (y : List ℕ) (m t : ℕ) where
  abbrev hope_long : List Bool
  hope_long = eqb (length y) (length (joined p)) ∷ (eqb m (length p) ∷ (eqb t (length p) ∷ []))

  pub hope-sound : is_ok (hope_verdict d p y m t) ≡ true
      → Accepted Hope d p y × (m ≡ length p) × (t ≡ length p) × (hope_verdict d p y m t ≡ Ok (flow_of p y))
  hope-sound e =
      let u = levels_pass hope_long (judgement Hope d p y) e in
      let j = judged Hope d p y u.1 (eqb-true (length y) (length (joined p)) u.0.0) in (
        j.0,
        eqb-true m (length p) u.0.1.0,
        eqb-true t (length p) u.0.1.1.0,
        pass_levels hope_long (judgement Hope d p y) u.0 ∙ j.1,
      )

  pub hope_accepts : Accepted Hope d p y → m ≡ length p → t ≡ length p → hope_verdict d p y m t ≡ Ok (flow_of p y)
  hope_accepts h em et =
      pass_levels hope_long (judgement Hope d p y)
      (eq-eqb (length y) (length (joined p)) h.one_each, (eq-eqb m (length p) em, (eq-eqb t (length p) et, tt)))
      ∙ judges Hope d p y h

module _ (d : ℕ) (p : Process) (y : List ℕ) (t : ℕ) where
  abbrev risk_long : List Bool
  risk_long = eqb (length y) (length (joined p)) ∷ (true ∷ (eqb t (length p) ∷ []))

  pub risk-sound : is_ok (risk_verdict d p y t) ≡ true
      → Accepted Risk d p y × (t ≡ length p) × (risk_verdict d p y t ≡ Ok (flow_of p y))
  risk-sound e =
      let u = levels_pass risk_long (judgement Risk d p y) e in
      let j = judged Risk d p y u.1 (eqb-true (length y) (length (joined p)) u.0.0) in
      (j.0, eqb-true t (length p) u.0.1.1.0, pass_levels risk_long (judgement Risk d p y) u.0 ∙ j.1)

  pub risk_accepts : Accepted Risk d p y → t ≡ length p → risk_verdict d p y t ≡ Ok (flow_of p y)
  risk_accepts h et =
      pass_levels risk_long (judgement Risk d p y)
      (eq-eqb (length y) (length (joined p)) h.one_each, (refl, (eq-eqb t (length p) et, tt)))
      ∙ judges Risk d p y h
