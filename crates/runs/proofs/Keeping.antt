-- An accepted floor came after an accepted delay, and what was accepted passes again over every part that holds the marked
-- states.
use Rattle.std.proofs.Common.{◌≡◌, ℕ, ◌<◌, ◌≤◌, Bool, true, false, cond, ltb, List, [], ◌∷◌, ◌++◌, length, get_or, is_ok, Ok, Err, Result, sym, refl, ap, ◌∙◌, subst, inl, inr, zero-add, arith}
use Rattle.std.proofs.lemmas.List.{get_or_past, get_or-map}
use Rattle.std.proofs.lemmas.List.FromFn.{get_or-map-range_with_len}
use Rattle.std.proofs.lemmas.Bool.{cases_lt, cases_Bool, lt-ltb, cond-true, not-false, false≢true, both_ways}
use Rattle.refusal.specs.Tellings.{Telling, at_register}
use Rattle.refusal.proofs.Tests.{unless_ok}
use Rattle.process.specs.Process.{Process}
use Rattle.process.specs.Parts.{kept_move, part_of}
use Rattle.process.proofs.Parts.{part_states, resent-joined}
use Rattle.bounds.specs.Vectors.{value_at, Options, own}
use Rattle.bounds.proofs.Parts.{part_floor, part_delay, part_own, part_gain, part_hope}
use Rattle.kinds.specs.declared.state_kind.StateKind.{StateKind}
use Rattle.kinds.specs.declared.state_kind.StateKind.TheVariants.{Floor, Delay}
use Rattle.kinds.specs.declared.flow_kind.FlowKind.TheVariants.{Hope}
use Rattle.kinds.specs.StateKinds.{FairAt}
use Rattle.vectors.specs.Verdicts.{verdict, floor_verdict, marked}
use Rattle.vectors.specs.Accepts.{Accepted}
use Rattle.vectors.proofs.Accepting.{verdict-sound, verdict_accepts, floor-sound, floor_accepts}
use Rattle.flows.specs.Verdicts.{flow_of, hope_verdict, spending}
use Rattle.flows.specs.Accepts.{Accepted as Flow-accepted}
use Rattle.flows.proofs.Accepting.{hope-sound, hope_accepts}
use Rattle.sheets.specs.declared.figures.Bracket.{Bracket}
use Rattle.sheets.specs.Brackets.{higher_floor, given_delay}
use Rattle.sheets.specs.Counting.{full, unless_full}
use Rattle.runs.specs.Acts.{Vector, cap, delay, floor, hope, risk, Act, takes, asks_least, asks_most, accepted, skipped, Standing, first_standing}
use Rattle.runs.specs.Steps.{meets_hope, with_bound, finding, skips, after, replied, reply, left_by, left, final}
use Rattle.runs.specs.Holds.{Q}
use Rattle.runs.specs.Promise.{AcceptedIn, marks_of, marks_written, HoldsMarked, FloorAgain, HopeAgain}

-- a call is accepted only if its vector is not skipped and a bound is found, and it then leaves what acceptance leaves
ok_accepted : {B : Type 0} (p : Process) (v : Vector) (skip : Bool) (r : Result B Telling)
    → cond skip skipped (replied r) ≡ accepted
    → (skip ≡ false) × (is_ok r ≡ true) × ((b : B) × (cond skip v (left_by r p v) ≡ left_by (Ok b) p v))
ok_accepted p v true r e = absurd cc
ok_accepted p v false (Ok b) e = (refl, refl, (b, refl))
ok_accepted p v false (Err x) e = absurd cc

-- the bracket meets a bound only where the check has given one
bound_ok : {B : Type 0} (meets : B → Bracket → Bracket) (r : Result B Telling) → is_ok (with_bound meets r) ≡ true → is_ok r ≡ true
bound_ok meets (Ok b) e = refl
bound_ok meets (Err x) e = e

module _ (d : ℕ) (p : Process) where
  -- so of every accepted vector, at the standing before it
  record PassedAt (v : Vector) (s : Standing) : Type 0 where
    not_skipped : skips s.settled v ≡ false
    found : is_ok (finding d p v) ≡ true
    meets : Bracket → Bracket
    leaves : left d p (takes v) s ≡ takes (left_by (Ok meets) p v)

  passed : {acts : List Act} {v : Vector} (i : AcceptedIn d p acts v) → PassedAt v (final d p i.earlier first_standing)
  passed {acts} {v} i =
      let s = final d p i.earlier first_standing in
      let a = ok_accepted p v (skips s.settled v) (unless_full s.sheet (finding d p v)) i.passes in
      record {
        not_skipped = a.0;
        found = (unless_ok (at_register 51) (full s.sheet) (finding d p v) a.1).1;
        meets = a.2.0;
        leaves = ap takes a.2.1;
      }

  -- only an accepted delay settles
  settled_by : (a : Act) (s : Standing) → s.settled ≡ false → (after d p a s).settled ≡ true
      → (v : List ℕ) × (a ≡ takes (delay v)) × (reply d p (takes (delay v)) s ≡ accepted)
  settled_by (takes (cap z)) s o e = absurd (both_ways s.settled o e)
  settled_by (takes (delay v)) s o e = (v, refl, rw o (answered (unless_full s.sheet (finding d p (delay v))) (rw o at e)))
    where
      answered : (r : Result (Bracket → Bracket) Telling) → is_ok r ≡ true → replied r ≡ accepted
      answered (Ok b) e = refl
      answered (Err x) e = absurd (false≢true e)
  settled_by (takes (floor z m)) s o e = absurd (false≢true (rw o at e))
  settled_by (takes (hope y m t)) s o e = absurd (both_ways s.settled o e)
  settled_by (takes (risk y t)) s o e = absurd (both_ways s.settled o e)
  settled_by (asks_least l) s o e = absurd (both_ways s.settled o e)
  settled_by (asks_most l) s o e = absurd (both_ways s.settled o e)

  -- so where calls end settled, from a standing that is open, one of them is an accepted delay
  record DelayIn (acts : List Act) (s : Standing) : Type 0 where
    vector : List ℕ
    earlier : List Act
    later : List Act
    whole : acts ≡ earlier ++ takes (delay vector) ∷ later
    passes : reply d p (takes (delay vector)) (final d p earlier s) ≡ accepted

  settling : (acts : List Act) (s : Standing) → s.settled ≡ false → (final d p acts s).settled ≡ true → DelayIn acts s
  settling [] s o e = absurd (both_ways s.settled o e)
  settling (a ∷ rest) s o e =
      elim (cases_Bool (after d p a s).settled) [
        | inl t ↦
            let f = settled_by a s o t in
            record { vector = f.0; earlier = []; later = rest; whole = ap (λ b. b ∷ rest) f.1; passes = f.2 }
        | inr t ↦
            let r = settling rest (after d p a s) t e in
            record {
              vector = r.vector;
              earlier = a ∷ r.earlier;
              later = r.later;
              whole = ap (λ l. a ∷ l) r.whole;
              passes = r.passes;
            }
      ]

  pub delayed : (acts : List Act) (z m : List ℕ) (i : AcceptedIn d p acts (floor z m))
      → (v : List ℕ) × AcceptedIn d p i.earlier (delay v)
  delayed acts z m i =
      let r =
      settling i.earlier first_standing refl
      (not-false (final d p i.earlier first_standing).settled (passed i).not_skipped) in
      (r.vector, record { earlier = r.earlier; later = r.later; whole = r.whole; passes = r.passes })

  module _ (kept : ℕ → Bool) where
    -- a set that holds the marked states holds those where a number is positive, if they are marked for that
    holds_positive : (f : ℕ → ℕ) (n : ℕ) (marks : List ℕ)
        → ((s : ℕ) → s < n → get_or marks s 0 ≡ cond (ltb 0 (f s)) 1 0) → ((s : ℕ) → n ≤ s → f s ≡ 0)
        → HoldsMarked kept marks → (s : ℕ) → 0 < f s → kept s ≡ true
    holds_positive f n marks inside past h s l =
        elim (cases_lt s n) [
          | inl i ↦ h s (inside s i ∙ cond-true (ltb 0 (f s)) 1 0 (lt-ltb 0 (f s) l))
          | inr i ↦ absurd (omega (arith, past s i))
        ]

    holds_entries : (z : List ℕ) → HoldsMarked kept (marked z) → (s : ℕ) → 0 < value_at z s → kept s ≡ true
    holds_entries z =
        holds_positive (value_at z) (length z) (marked z) (λ s i. get_or-map (λ x. cond (ltb 0 x) 1 0) z s 0 0 i)
        (λ s i. get_or_past z s 0 i)

    holds_own : (y : List ℕ) → HoldsMarked kept (spending p y) → (s : ℕ) → 0 < own p y s → kept s ≡ true
    holds_own y =
        holds_positive (own p y) (length p) (spending p y)
        (λ s i. get_or-map-range_with_len (λ s. cond (ltb 0 (own p y s)) 1 0) 0 (length p) s s 0 i (zero-add s))
        (λ s i. rw (get_or_past p s [] i))

    -- a vector that is accepted over the whole is accepted over the part if its inequalities hold there
    part_accepted : (k : StateKind) (z : List ℕ) → Accepted k d p z
        → Options (part_of kept p) (FairAt k d (length (part_of kept p)) z) → Accepted k d (part_of kept p) z
    part_accepted k z a fair =
        record { one_each = a.one_each ∙ sym (part_states kept p); limited = a.limited; fair = fair }

  -- so the marked states are enough: over the part the checks pass again, to the same bounds and marks
  pub floor_again : (acts : List Act) (z m v : List ℕ) (i : AcceptedIn d p acts (floor z m)) → AcceptedIn d p acts (delay v)
      → (kept : ℕ → Bool) → HoldsMarked kept (marks_written i) → FloorAgain d p kept v z m (marks_written i)
  floor_again acts z m v i j kept h =
      let f = passed i in
      let a = floor-sound d p z (length m) (bound_ok higher_floor (floor_verdict d p z (length m)) f.found) in
      let b = verdict-sound Delay d p v (bound_ok given_delay (verdict Delay d p v) (passed j).found) in
      let marks : marks_written i ≡ marked z = ap marks_of f.leaves in
      let positive = holds_entries kept z (subst (HoldsMarked kept) marks h) in
      let floor-passes : (m : ℕ) → m ≡ length p → floor_verdict d (part_of kept p) z m ≡ Ok (value_at z 0) =
      λ m l.
      floor_accepts d (part_of kept p) z m
      (part_accepted kept Floor z a.0 (part_floor Q d p kept z a.0.one_each positive a.0.fair))
      (l ∙ sym (part_states kept p)) in
      let delay-passes =
      verdict_accepts Delay d (part_of kept p) v
      (part_accepted kept Delay v b.0 (part_delay Q d p kept v b.0.one_each b.0.fair)) in
      record {
        answers = λ fresh l. rw (delay-passes, floor-passes (length fresh) l);
        same_marks = λ fresh l. rw (delay-passes, floor-passes (length fresh) l, marks);
        same_bound = floor-passes (length p) refl ∙ sym a.2;
        same_delay = delay-passes ∙ sym b.1;
      }

  pub hope_again : (acts : List Act) (y m t : List ℕ) (i : AcceptedIn d p acts (hope y m t))
      → (kept : ℕ → Bool) → HoldsMarked kept (marks_written i) → HopeAgain d p kept y m t (marks_written i)
  hope_again acts y m t i kept h =
      let f = passed i in
      let a =
      hope-sound d p y (length m) (length t)
      (bound_ok (meets_hope d) (hope_verdict d p y (length m) (length t)) f.found) in
      let marks : marks_written i ≡ spending p y = ap marks_of f.leaves in
      let positive = holds_own kept y (subst (HoldsMarked kept) marks h) in
      let part : Flow-accepted Hope d (part_of kept p) y =
      record {
        one_each = a.0.one_each ∙ sym (resent-joined (kept_move kept) p);
        limited = a.0.limited;
        balance = part_hope Q d p kept y positive a.0.balance;
      } in
      let n = sym (part_states kept p) in
      let passes : (m t : ℕ) → m ≡ length p → t ≡ length p
      → hope_verdict d (part_of kept p) y m t ≡ Ok (flow_of (part_of kept p) y) =
      λ m t l k. hope_accepts d (part_of kept p) y m t part (l ∙ n) (k ∙ n) in
      record {
        answers = λ fresh tally l k. rw (passes (length fresh) (length tally) l k);
        same_marks =
            λ fresh tally l k. rw (passes (length fresh) (length tally) l k)
            (simp (part_states kept p, part_own Q d p kept y positive) (sym marks));
        same_bound_and_visits =
            passes (length p) (length p) refl refl ∙ rw (part_gain Q d p kept y positive) (sym a.3);
      }
