-- The bounds hold along every list of calls.
use Rattle.std.proofs.Common.{◌≡◌, ℕ, min, max, Bool, true, false, cond, ltb, List, [], ◌∷◌, length, is_some, is_ok, Some, None, Ok, Err, sum, Option, Result, sym, refl, ap, ◌∙◌, subst, inl, inr, mul-le-mul_left, arith}
use Rattle.std.proofs.lemmas.Bool.{cases_lt, both_ways}
use Rattle.std.proofs.lemmas.Option.{none-some}
use Rattle.refusal.specs.Tellings.{Telling, at_register}
use Rattle.refusal.specs.Tests.{unless}
use Rattle.process.specs.Process.{Process, Formed}
use Rattle.bounds.specs.Vectors.{value_at, gain}
use Rattle.bounds.specs.Holds.{CapHolds, FloorHolds}
use Rattle.bounds.proofs.Orders.{formed-whole, best_le, hits_under_best, hits_above_worst}
use Rattle.bounds.proofs.States.{cap_holds, floor_holds}
use Rattle.bounds.proofs.Flows.{HopeBound, RiskBound, hope_bound, risk_bound, hope_holds, risk_holds}
use Rattle.bounds.proofs.Limits.{some_order, floor_le_cap, floor_le_risk, hope_le_cap}
use Rattle.kinds.specs.declared.state_kind.StateKind.TheVariants.{Cap, Delay}
use Rattle.kinds.specs.declared.flow_kind.FlowKind.TheVariants.{Hope, Risk}
use Rattle.kinds.specs.FlowKinds.{rounded}
use Rattle.kinds.proofs.Rounding.{rounds}
use Rattle.vectors.specs.Verdicts.{verdict, floor_verdict}
use Rattle.vectors.specs.Accepts.{Accepted}
use Rattle.vectors.proofs.Accepting.{verdict-sound, floor-sound}
use Rattle.flows.specs.Verdicts.{flow_of, hope_verdict, risk_verdict}
use Rattle.flows.proofs.Accepting.{hope-sound, risk-sound}
use Rattle.sheets.specs.declared.figures.Bracket.{Bracket}
use Rattle.sheets.specs.declared.figures.Sheet.{Sheet}
use Rattle.sheets.specs.Brackets.{first_bracket, lower_cap, higher_floor, given_delay, better_hope, with_hope, lower_risk}
use Rattle.sheets.specs.Counting.{unless_full}
use Rattle.runs.specs.Acts.{Vector, cap, delay, floor, hope, risk, Act, takes, asks_least, asks_most, Standing, first_standing}
use Rattle.runs.specs.Steps.{meets_hope, meets_risk, with_bound, finding, counted, sheet_after, after, final}
use Rattle.runs.specs.Holds.{Q, BoundsHold}

-- what the delay that settled a register carries
pub record SettledBy (d : ℕ) (p : Process) (k : Bracket) : Type 0 where
  pub vector : List ℕ
  pub passed : Accepted Delay d p vector
  pub bound : k.delay ≡ Some (value_at vector 0)
  pub floor : FloorHolds Q d p k.floor (value_at vector 0)

-- what every call keeps; of hope and risk with no order in hand
pub record Carried (d : ℕ) (p : Process) (settled : Bool) (k : Bracket) : Type 0 where
  pub cap : CapHolds Q d p k.cap
  pub hope : HopeBound Q d p k.hope k.visits
  pub risk : RiskBound Q d p k.risk
  pub opening : settled ≡ false → (k.delay ≡ None) × (k.floor ≡ 0)
  pub settling : settled ≡ true → SettledBy d p k

min_either : (P : ℕ → Type 0) (a b : ℕ) → P a → P b → P (min a b)
min_either P a b l r =
    elim (cases_lt a b) [
      | inl h ↦ let e : min a b ≡ a = omega arith in rw e l
      | inr h ↦ let e : min a b ≡ b = omega arith in rw e r
    ]

max_either : (P : ℕ → Type 0) (a b : ℕ) → P a → P b → P (max a b)
max_either P a b l r =
    elim (cases_lt a b) [
      | inl h ↦ let e : max a b ≡ b = omega arith in rw e r
      | inr h ↦ let e : max a b ≡ a = omega arith in rw e l
    ]

-- an accepted finding comes from an accepted verdict, and meets its bound
module _ {B : Type 0} (meets : B → Bracket → Bracket) (r : Result B Telling) (f : Bracket → Bracket) where
  found_ok : with_bound meets r ≡ Ok f → is_ok r ≡ true
  found_ok e = at r e
    where
      at : (r : Result B Telling) → with_bound meets r ≡ Ok f → is_ok r ≡ true
      at (Ok b) e = refl
      at (Err x) e = absurd cc

  found_is : (b : B) → r ≡ Ok b → with_bound meets r ≡ Ok f → meets b ≡ f
  found_is b q e = cc

-- what holds of a bracket, and of what it meets, holds after a vector
sheet_keeps : (P : Bracket → Type 0) (found : Result (Bracket → Bracket) Telling) (s : Sheet)
    → ((f : Bracket → Bracket) → found ≡ Ok f → P (f s.bracket)) → P s.bracket → P (sheet_after found s).bracket
sheet_keeps P found s keeps h = at (ltb s.taken 65535) found keeps
  where
    at : (t : Bool) (found : Result (Bracket → Bracket) Telling)
        → ((f : Bracket → Bracket) → found ≡ Ok f → P (f s.bracket)) → P (cond t (counted found s) s).bracket
    at true (Ok f) k = k f refl
    at true (Err e) k = h
    at false found k = h

-- the same of a delay, which settles where it is accepted
delay_keeps : (P : Bool → Bracket → Type 0) (found : Result (Bracket → Bracket) Telling) (s : Sheet)
    → ((f : Bracket → Bracket) → found ≡ Ok f → P true (f s.bracket)) → P false s.bracket
    → P (is_ok (unless_full s found)) (sheet_after found s).bracket
delay_keeps P found s keeps h = at (ltb s.taken 65535) found keeps
  where
    at : (t : Bool) (found : Result (Bracket → Bracket) Telling)
        → ((f : Bracket → Bracket) → found ≡ Ok f → P true (f s.bracket))
        → P (is_ok (unless (at_register 51) (cond t None (Some 0)) found)) (cond t (counted found s) s).bracket
    at true (Ok f) k = k f refl
    at true (Err e) k = h
    at false found k = h

module _ (d : ℕ) (p : Process) (formed : Formed d p) where
  first-carried : Carried d p false first_bracket
  first-carried =
      record {
        cap =
            λ c N.
            omega (
              arith,
              mul-le-mul_left Q (hits_under_best d p c N 0 []),
              mul-le-mul_left Q (best_le d p (formed-whole d p formed) N 0),
            );
        hope = λ N. omega arith;
        risk =
            λ N.
            let c = some_order d p formed in
            omega (
              arith,
              mul-le-mul_left Q (hits_above_worst d p c N 0 []),
              mul-le-mul_left Q (hits_under_best d p c N 0 []),
              mul-le-mul_left Q (best_le d p (formed-whole d p formed) N 0),
            );
        opening = λ e. (refl, refl);
        settling = λ e. absurd (both_ways false refl e);
      }

  -- the settling delay stays with a bracket that has the same floor and delay
  same_settled : (k k' : Bracket) → k.floor ≡ k'.floor → k.delay ≡ k'.delay → SettledBy d p k → SettledBy d p k'
  same_settled k k' ef ed s =
      record {
        vector = s.vector;
        passed = s.passed;
        bound = sym ed ∙ s.bound;
        floor = subst (λ (x : ℕ). FloorHolds Q d p x (value_at s.vector 0)) ef s.floor;
      }

  module _ (t : Bool) (k : Bracket) (h : Carried d p t k) where
    cap-carried : (z : List ℕ) (f : Bracket → Bracket) → finding d p (cap z) ≡ Ok f → Carried d p t (f k)
    cap-carried z f e =
        let a = verdict-sound Cap d p z (found_ok lower_cap (verdict Cap d p z) f e) in
        let x = value_at z 0 in
        subst (λ (g : Bracket → Bracket). Carried d p t (g k)) (found_is lower_cap (verdict Cap d p z) f x a.1 e)
        record {
          cap = min_either (CapHolds Q d p) k.cap x h.cap (cap_holds Q d p z a.0.one_each a.0.fair);
          hope = h.hope;
          risk = h.risk;
          opening = h.opening;
          settling = λ o. same_settled k (lower_cap x k) refl refl (h.settling o);
        }

    risk-carried : (y m : List ℕ) (f : Bracket → Bracket) → finding d p (risk y m) ≡ Ok f → Carried d p t (f k)
    risk-carried y m f e =
        let r = risk_verdict d p y (length m) in
        let a = risk-sound d p y (length m) (found_ok (meets_risk d) r f e) in
        let x = rounded Risk (gain p y) d in
        subst (λ (g : Bracket → Bracket). Carried d p t (g k)) (found_is (meets_risk d) r f (flow_of p y) a.2 e)
        record {
          cap = h.cap;
          hope = h.hope;
          risk =
              min_either (RiskBound Q d p) k.risk x h.risk
              (risk_bound Q d p formed y a.0.balance x (rounds Risk (gain p y) d formed.scale_positive).0);
          opening = h.opening;
          settling = λ o. same_settled k (lower_risk x k) refl refl (h.settling o);
        }

    hope-carried : (y m l : List ℕ) (f : Bracket → Bracket) → finding d p (hope y m l) ≡ Ok f → Carried d p t (f k)
    hope-carried y m l f e =
        let r = hope_verdict d p y (length m) (length l) in
        let a = hope-sound d p y (length m) (length l) (found_ok (meets_hope d) r f e) in
        let x = rounded Hope (gain p y) d in
        subst (λ (g : Bracket → Bracket). Carried d p t (g k)) (found_is (meets_hope d) r f (flow_of p y) a.3 e)
        (at x (better_hope x (sum y) k)
        (hope_bound Q d p formed y a.0.balance x (rounds Hope (gain p y) d formed.scale_positive).0))
      where
        at : (x : ℕ) (better : Bool) → HopeBound Q d p x (sum y) → Carried d p t (cond better (with_hope x (sum y) k) k)
        at x true bound =
            record {
              cap = h.cap;
              hope = bound;
              risk = h.risk;
              opening = h.opening;
              settling = λ o. same_settled k (with_hope x (sum y) k) refl refl (h.settling o);
            }
        at x false bound = h

  floor-carried : (k : Bracket) → Carried d p true k → (z m : List ℕ) (f : Bracket → Bracket)
      → finding d p (floor z m) ≡ Ok f → Carried d p true (f k)
  floor-carried k h z m f e =
      let a = floor-sound d p z (length m) (found_ok higher_floor (floor_verdict d p z (length m)) f e) in
      let x = value_at z 0 in
      let s = h.settling refl in
      let v = s.vector in
      subst (λ (g : Bracket → Bracket). Carried d p true (g k))
      (found_is higher_floor (floor_verdict d p z (length m)) f x a.2 e)
      record {
        cap = h.cap;
        hope = h.hope;
        risk = h.risk;
        opening = λ o. absurd (both_ways true o refl);
        settling =
            λ o.
            record {
              vector = v;
              passed = s.passed;
              bound = s.bound;
              floor =
                  max_either (λ (f : ℕ). FloorHolds Q d p f (value_at v 0)) k.floor x s.floor
                  (floor_holds Q d p formed z v a.0.one_each s.passed.one_each a.0.limited a.0.fair
                  s.passed.fair);
            };
      }

  delay-carried : (k : Bracket) → Carried d p false k → (v : List ℕ) (f : Bracket → Bracket)
      → finding d p (delay v) ≡ Ok f → Carried d p true (f k)
  delay-carried k h v f e =
      let a = verdict-sound Delay d p v (found_ok given_delay (verdict Delay d p v) f e) in
      let none = (h.opening refl).1 in
      subst (λ (g : Bracket → Bracket). Carried d p true (g k))
      (found_is given_delay (verdict Delay d p v) f (value_at v 0) a.1 e)
      record {
        cap = h.cap;
        hope = h.hope;
        risk = h.risk;
        opening = λ o. absurd (both_ways true o refl);
        settling =
            λ o.
            record {
              vector = v;
              passed = a.0;
              bound = refl;
              floor = λ c N. rw none (omega arith);
            };
      }

  -- one vector, and one call
  vector_carried : (v : Vector) (t : Bool) (s : Sheet) → Carried d p t s.bracket
      → Carried d p (after d p (takes v) (record { settled = t; sheet = s })).settled
      (after d p (takes v) (record { settled = t; sheet = s })).sheet.bracket
  vector_carried (cap z) t s h =
      sheet_keeps (Carried d p t) (finding d p (cap z)) s (cap-carried t s.bracket h z) h
  vector_carried (delay v) true s h = h
  vector_carried (delay v) false s h =
      delay_keeps (Carried d p) (finding d p (delay v)) s (delay-carried s.bracket h v) h
  vector_carried (floor z m) true s h =
      sheet_keeps (Carried d p true) (finding d p (floor z m)) s (floor-carried s.bracket h z m) h
  vector_carried (floor z m) false s h = h
  vector_carried (hope y m l) t s h =
      sheet_keeps (Carried d p t) (finding d p (hope y m l)) s (hope-carried t s.bracket h y m l) h
  vector_carried (risk y m) t s h =
      sheet_keeps (Carried d p t) (finding d p (risk y m)) s (risk-carried t s.bracket h y m) h

  after-carried : (a : Act) (s : Standing) → Carried d p s.settled s.sheet.bracket
      → Carried d p (after d p a s).settled (after d p a s).sheet.bracket
  after-carried (takes v) s h = vector_carried v s.settled s.sheet h
  after-carried (asks_least l) s h = h
  after-carried (asks_most l) s h = h

  final-carried : (acts : List Act) (s : Standing) → Carried d p s.settled s.sheet.bracket
      → Carried d p (final d p acts s).settled (final d p acts s).sheet.bracket
  final-carried [] s h = h
  final-carried (a ∷ rest) s h = final-carried rest (after d p a s) (after-carried a s h)

  -- from the first bracket on
  runs_carried : (acts : List Act)
      → Carried d p (final d p acts first_standing).settled (final d p acts first_standing).sheet.bracket
  runs_carried acts = final-carried acts first_standing first-carried

  same_some : (x y : ℕ) (o : Option ℕ) → o ≡ Some x → o ≡ Some y → x ≡ y
  same_some x y o e f = cc

  -- what is carried holds of the orders
  carried_holds : (t : Bool) (k : Bracket) → Carried d p t k → BoundsHold d p k
  carried_holds true k h =
      let s = h.settling refl in
      let hopes = hope_holds Q d p formed k.hope k.visits h.hope in
      let risks = risk_holds Q d p formed k.risk h.risk in
      record {
        cap_bounds = h.cap;
        floor_bounds =
            λ delay e.
            subst (λ (x : ℕ). FloorHolds Q d p k.floor x)
            (same_some (value_at s.vector 0) delay k.delay s.bound e) s.floor;
        open_floor = λ e. absurd (none-some (value_at s.vector 0) (sym e ∙ s.bound));
        hope_bounds = hopes;
        risk_bounds = risks;
        floor_under_risk = floor_le_risk Q d p formed k.floor (value_at s.vector 0) k.risk s.floor risks;
        floor_under_cap = floor_le_cap Q d p formed k.floor (value_at s.vector 0) k.cap s.floor h.cap;
        hope_under_cap = hope_le_cap Q d p formed k.hope k.visits k.cap hopes h.cap;
      }
  carried_holds false k h =
      let o = h.opening refl in
      let hopes = hope_holds Q d p formed k.hope k.visits h.hope in
      record {
        cap_bounds = h.cap;
        floor_bounds = λ delay e. absurd (none-some delay (sym o.0 ∙ e));
        open_floor = λ e. o.1;
        hope_bounds = hopes;
        risk_bounds = risk_holds Q d p formed k.risk h.risk;
        floor_under_risk = omega (arith, o.1);
        floor_under_cap = omega (arith, o.1);
        hope_under_cap = hope_le_cap Q d p formed k.hope k.visits k.cap hopes h.cap;
      }

  delay-told : (t : Bool) (k : Bracket) → Carried d p t k → is_some k.delay ≡ t
  delay-told true k h = ap is_some (h.settling refl).bound
  delay-told false k h = ap is_some (h.opening refl).0

  pub runs_told : (acts : List Act)
      → is_some (final d p acts first_standing).sheet.bracket.delay ≡ (final d p acts first_standing).settled
  runs_told acts =
      delay-told (final d p acts first_standing).settled (final d p acts first_standing).sheet.bracket (runs_carried acts)

  pub runs_hold : (acts : List Act) → BoundsHold d p (final d p acts first_standing).sheet.bracket
  runs_hold acts =
      carried_holds (final d p acts first_standing).settled (final d p acts first_standing).sheet.bracket
      (runs_carried acts)
