-- Sums over moves and options: one turn of a loop, and bounds.
use Rattle.std.proofs.Common.{◌≡◌, ℕ, zero, suc, ◌+◌, ◌*◌, ◌^◌, ◌<◌, ◌≤◌, Bool, not, eqb, List, [], ◌∷◌, length, get_or, take, drop, replicate, sym, refl, ap, ◌∙◌, suc-le-suc, le_refl, add_assoc, mul_assoc, mul-le-mul_left, zero-add, mul-one, mul-add, add-one, inl, inr, arith}
use Rattle.std.specs.List.{find, range_with_len, AllByRecursion as Every}
use Rattle.std.proofs.lemmas.List.{take_all, get_or-replicate, get_or-take, get_or-drop}
use Rattle.std.proofs.lemmas.List.FromFn.{length-map-range_with_len, get_or-map-range_with_len, fill_by_all}
use Rattle.std.proofs.lemmas.Nat.{mul-le}
use Rattle.std.proofs.ByRecursion.{All-weaker, All-from_get_or}
use Rattle.std.proofs.lemmas.Bool.{cond_both, cases_Bool}
use Rattle.refusal.specs.Tests.{first_bad}
use Rattle.process.specs.declared.place.Place.{Place}
use Rattle.process.specs.declared.place.Place.TheVariants.{State, End as Ends}
use Rattle.process.specs.declared.place.Move.{Move}
use Rattle.process.specs.Process.{Process, joined, weights, Formed, OptionFormed}
use Rattle.process.specs.Queries.{moves_of}
use Rattle.process.specs.Means.{mean, is_target, worth}
use Rattle.process.proofs.Joined.{length-joined_more}
use Rattle.process.proofs.Walks.{all_joined, joined_at, span_last}
use Rattle.bounds.specs.Vectors.{flow, inflow, gain, one_at, weight_to, weight_to_target}
use Rattle.flows.specs.Verdicts.{each_state}

-- one move of an option that is poured at v: its weight w times h goes from what is left to what has come
pub pour_turn : (a r v w h A B : ℕ) → a + v * A ≡ r → A ≡ w * h + B → a + v * w * h + v * B ≡ r
pour_turn a r v w h A B f e = omega (arith, f, ap (λ (x : ℕ). v * x) e, mul-add v (w * h) B, mul_assoc v w h)

-- a sum of weights is at most all of them
pub mean_le : (f : Place → ℕ) → ((q : Place) → f q ≤ 1) → (ms : List Move) → mean f ms ≤ weights ms
mean_le f h [] = omega arith
mean_le f h (m ∷ ms) = omega (arith, mul-le-mul_left m.weight (h m.place), mul-one m.weight, mean_le f h ms)

pub hit_le : (s : ℕ) (q : Place) → worth (one_at s) 0 q ≤ 1
hit_le s (State s') = cond_both (eqb s' s) 1 0 (λ x. x ≤ 1) (λ _. omega arith) (λ _. omega arith)
hit_le s (Ends q) = cond_both (is_target q) 0 0 (λ x. x ≤ 1) (λ _. omega arith) (λ _. omega arith)

pub target_le : (q : Place) → worth (λ _. 0) 1 q ≤ 1
target_le (State s) = omega arith
target_le (Ends q) = cond_both (is_target q) 1 0 (λ x. x ≤ 1) (λ _. omega arith) (λ _. omega arith)

pub target_room : (v : ℕ) (ms : List Move) → v < 2 ^ 32 → weights ms ≤ 65536 → v * weight_to_target ms < 2 ^ 64
target_room v ms f l =
    omega (arith, mul-le v (weight_to_target ms) (2 ^ 32) 65536 (omega arith) (omega (arith, mean_le (worth (λ _. 0) 1) target_le ms, l)))

scaled : (d : ℕ) (p : Process) (f : Place → ℕ) → Formed d p → ((q : Place) → f q ≤ 1) → Every (λ ms. mean f ms ≤ 65536) (joined p)
scaled d p f h l =
    All-weaker (OptionFormed d (length p)) (λ ms. mean f ms ≤ 65536) (λ ms o. omega (arith, mean_le f l ms, o.sum, h.scale_limit)) (joined p) (all_joined d (length p) p h.each)

pub flow-none : (f : List Move → ℕ) (y : List ℕ) → flow f y [] ≡ 0
flow-none f [] = refl
flow-none f (v ∷ y) = refl

-- a tally part of the way: it holds what the first o options send to each state, beside what they send to the target
pub record Poured (p : Process) (y : List ℕ) (o : ℕ) (tally : List ℕ) (gained : ℕ) : Type 0 where
  pub inflows : (s : ℕ) → s < length tally → get_or tally s 0 ≡ flow (weight_to s) y (take o (joined p))
  pub gain : gained ≡ flow weight_to_target y (take o (joined p))

pub poured_none : (p : Process) (y tally : List ℕ) → tally ≡ replicate (length tally) 0 → Poured p y 0 tally 0
poured_none p y tally e =
    record {
      inflows = λ s h. ap (λ l. get_or l s 0) e ∙ get_or-replicate (length tally) s 0 0 h ∙ sym (flow-none (weight_to s) y);
      gain = sym (flow-none weight_to_target y);
    }

flow_more : (f : List Move → ℕ) (os : List (List Move)) (y : List ℕ) (o : ℕ) → o < length os → o < length y
    → flow f y (take (o + 1) os) ≡ flow f y (take o os) + get_or y o 0 * f (get_or os o [])
flow_more f os y o h l = rw add-one (go os y o h l)
  where
    go : (os : List (List Move)) (y : List ℕ) (o : ℕ) → o < length os → o < length y
        → flow f y (take (suc o) os) ≡ flow f y (take o os) + get_or y o 0 * f (get_or os o [])
    go [] y o h l = elim h [ ]
    go (ms ∷ os) [] o h l = elim l [ ]
    go (ms ∷ os) (v ∷ y) zero h l = omega (arith, flow-none f y)
    go (ms ∷ os) (v ∷ y) (suc o) (suc-le-suc h) (suc-le-suc l) = omega (arith, go os y o h l)

flow_bound : (f : List Move → ℕ) (os : List (List Move)) (y : List ℕ) (o : ℕ) → Every (λ ms. f ms ≤ 65536) os → Every (λ v. v ≤ 2 ^ 32) y → flow f y (take o os) ≤ 2 ^ 48 * o
flow_bound f os y zero a b = omega (arith, flow-none f y)
flow_bound f [] y (suc o) a b = omega (arith, flow-none f y)
flow_bound f (ms ∷ os) [] (suc o) a b = omega arith
flow_bound f (ms ∷ os) (v ∷ y) (suc o) a b =
    omega (arith, mul-le v (f ms) (2 ^ 32) 65536 b.0 a.0, flow_bound f os y o a.1 b.1)

small : (y : List ℕ) → ((i : ℕ) → get_or y i 0 < 2 ^ 32) → Every (λ v. v ≤ 2 ^ 32) y
small y fits = All-from_get_or (λ v. v ≤ 2 ^ 32) y 0 (λ i _. omega (arith, fits i))

-- what a state is sent has room
pub inflow_limit : (d : ℕ) (p : Process) → Formed d p → (y : List ℕ) → ((i : ℕ) → get_or y i 0 < 2 ^ 32)
    → (s : ℕ) → inflow p y s ≤ 2 ^ 62
inflow_limit d p formed y fits s =
    omega (
      arith,
      formed.option_limit,
      ap (flow (weight_to s) y) (take_all (length (joined p)) (joined p) (le_refl (length (joined p)))),
      flow_bound (weight_to s) (joined p) y (length (joined p)) (scaled d p (worth (one_at s) 0) formed (hit_le s)) (small y fits),
    )

-- one option more, and there is room for it
module _ (d : ℕ) (p : Process) (formed : Formed d p) (y : List ℕ) (fits : (i : ℕ) → get_or y i 0 < 2 ^ 32)
    (s k : ℕ) (in-s : s < length p) (in-k : k < length (get_or p s [])) (all : length y ≡ length (joined p))
    (ys : List ℕ) (e : ys ≡ take (length (get_or p s [])) (drop (length (joined (take s p))) y)) where
  abbrev before : ℕ
  before = length (joined (take s p)) + k

  abbrev added : (List Move → ℕ) → ℕ
  added f = get_or ys k 0 * f (moves_of p s k)

  entry : get_or ys k 0 ≡ get_or y before 0
  entry =
      ap (λ l. get_or l k 0) e
      ∙ get_or-take (length (get_or p s [])) (drop (length (joined (take s p))) y) k 0 in-k
      ∙ get_or-drop (length (joined (take s p))) y k 0

  option_more : (f : List Move → ℕ) → flow f y (take (before + 1) (joined p)) ≡ flow f y (take before (joined p)) + added f
  option_more f =
      let l : before < length (joined p) = omega (arith, span_last p s in-s) in
      rw entry
      (flow_more f (joined p) y before l (omega arith)
      ∙ ap (λ (ms : List Move). flow f y (take before (joined p)) + get_or y before 0 * f ms) (joined_at p s k [] in-s in-k))

  option_room : (f : Place → ℕ) → ((q : Place) → f q ≤ 1) → flow (mean f) y (take before (joined p)) + added (mean f) < 2 ^ 64
  option_room f one =
      omega (
        arith,
        formed.option_limit,
        span_last p s in-s,
        option_more (mean f),
        flow_bound (mean f) (joined p) y (before + 1) (scaled d p f formed one) (small y fits),
      )

  module _ (tally : List ℕ) (gained : ℕ) (poured : Poured p y before tally gained) where
    pub tally_room : (t : ℕ) → t < length tally → get_or tally t 0 + added (weight_to t) < 2 ^ 64
    tally_room t h = omega (arith, poured.inflows t h, option_room (worth (one_at t) 0) (hit_le t))

    pub gained_room : gained + added weight_to_target < 2 ^ 64
    gained_room = omega (arith, poured.gain, option_room (worth (λ _. 0) 1) target_le)

    pub poured_more : (tally' : List ℕ) (gain : ℕ) → length tally' ≡ length tally
        → ((t : ℕ) → t < length tally → get_or tally' t 0 ≡ get_or tally t 0 + added (weight_to t))
        → gain ≡ added weight_to_target → Poured p y (length (joined (take s p)) + (k + 1)) tally' (gained + gain)
    poured_more tally' gain l each g =
        rw (← add_assoc)
        record {
          inflows =
              λ t h.
              let h' : t < length tally = omega arith in
              omega (arith, each t h', poured.inflows t h', option_more (weight_to t));
          gain = omega (arith, poured.gain, option_more weight_to_target);
        }

-- the options of a state, and of all of them
pub poured_state : (p : Process) (y : List ℕ) (s k : ℕ) (tally : List ℕ) (gained : ℕ) → s < length p
    → k ≡ length (get_or p s []) → Poured p y (length (joined (take s p)) + k) tally gained
    → Poured p y (length (joined (take (s + 1) p))) tally gained
poured_state p y s k tally gained h e poured = rw (length-joined_more p s h, ← e) poured

pub poured_all : (p : Process) (y : List ℕ) (s : ℕ) (tally : List ℕ) (gained : ℕ) → length p ≤ s
    → Poured p y (length (joined (take s p))) tally gained → Poured p y (length (joined p)) tally gained
poured_all p y s tally gained h poured = rw (take_all s p h) at poured

pub poured_is : (p : Process) (y tally : List ℕ) (gained : ℕ) → length tally ≡ length p
    → Poured p y (length (joined p)) tally gained → (tally ≡ each_state p (inflow p y)) × (gained ≡ gain p y)
poured_is p y tally gained l poured =
    let whole : take (length (joined p)) (joined p) ≡ joined p = take_all (length (joined p)) (joined p) (le_refl (length (joined p))) in (
      fill_by_all (inflow p y) tally (length p) 0 l
          (λ s h. poured.inflows s (omega arith) ∙ ap (flow (weight_to s) y) whole),
      poured.gain ∙ ap (flow weight_to_target y) whole,
    )

-- what a search through numbers in a row finds
pub found_is_bad : (ok : ℕ → Bool) (a n : ℕ) → find (λ s. not (ok s)) (range_with_len a n) ≡ first_bad ok a (range_with_len a n)
found_is_bad ok a zero = refl
found_is_bad ok a (suc n) =
    elim (cases_Bool (ok a)) [
      | inl t ↦ rw t (found_is_bad ok (a + 1) n)
      | inr f ↦ rw f refl
    ]

-- a read of a list made by states
pub at-state : (p : Process) (f : ℕ → ℕ) (xs : List ℕ) (s : ℕ) → xs ≡ each_state p f → s < length p → get_or xs s 0 ≡ f s
at-state p f xs s e h = ap (λ l. get_or l s 0) e ∙ get_or-map-range_with_len f 0 (length p) s s 0 h (zero-add s)

pub each-length : (p : Process) (f : ℕ → ℕ) (xs : List ℕ) → xs ≡ each_state p f → length xs ≡ length p
each-length p f xs e = ap length e ∙ length-map-range_with_len f 0 (length p)
