-- Items that run to the end spell a depot that fits.
use Rattle.std.proofs.Common.{◌≡◌, ℕ, ◌+◌, ◌-◌, ◌≤◌, true, cond, ◌||◌, ◌==◌, eqb, leb, List, [], ◌∷◌, ◌++◌, map, length, Some, None, Ok, Err, Option, Result, sym, refl, ap, ◌∙◌, subst, inl, inr, ⊎_elim, append_assoc, arith, length-append}
use lib.ListN.{length-map}
use Rattle.std.specs.List.{AllByRecursion as Every}
use Rattle.std.proofs.lemmas.Bool.{cond-true, cond-false, cases_Bool, and_parts, or_cases, ltb-true, leb-true, eqb-true}
use Rattle.std.proofs.ByRecursion.{All-weaker}
use Rattle.refusal.specs.Tellings.{Telling, at_text}
use Rattle.refusal.proofs.Tests.{between-says}
use Rattle.process.specs.Process.{joined, weights, Within, OptionFormed, StateFormed, Formed}
use Rattle.process.proofs.Joined.{length-joined-append}
use Rattle.encoding.specs.Lists.{Lists}
use Rattle.encoding.specs.Writing.{encoding}
use Rattle.encoding.proofs.Each.{some-joined}
use Rattle.passes.specs.Passes.{then}
use Rattle.depot_text.specs.declared.item.Spelled.{Spelled}
use Rattle.depot_text.specs.declared.item.Spelled.TheVariants as spelled
use Rattle.depot_text.specs.declared.item.Item.{Item}
use Rattle.depot_text.specs.declared.item.Item.TheVariants as item
use Rattle.depot_text.specs.declared.progress.Phase.{Phase}
use Rattle.depot_text.specs.declared.progress.Phase.TheVariants as phase
use Rattle.depot_text.specs.declared.progress.Rules.{Rules}
use Rattle.depot_text.specs.declared.progress.Progress.{Progress}
use Rattle.depot_text.specs.Machine.{phase_number, at_states, at_state, at_choice, at_weight, at_end, lacks_at, lacking, made_up, closed, exists, start, on_item}
use Rattle.depot_text.specs.Machine.{may_state, may_choice}
use Rattle.depot_text.specs.Machine.{after_states, after_state, after_choice}
use Rattle.depot_text.specs.Machine.{after_to, after_end}
use Rattle.depot_text.specs.Loading.{place_of, depot, rules_of, size}
use Rattle.depot_text.specs.Spelling.{SpelledMove, Tree, Fits, move_of, process_of, spread, size_of}
use Rattle.depot_text.specs.Spelling.{move_items, option_items, state_items, depot_items}
use Rattle.depot_text.proofs.Runs.{run, wrote}
use Rattle.depot_text.proofs.Taken.{Asks, after_item, taken}
use Rattle.depot_text.proofs.Complete.{length_options, length-moves, run_writes}

-- the phase of a number, whatever it carries
abbrev phase_of : ℕ → Phase
phase_of n =
    cond (eqb n 0) phase.Start
    (cond (eqb n 1) phase.Kind
    (cond (eqb n 2) phase.States
    (cond (eqb n 3) phase.State
    (cond (eqb n 4) (phase.Choice None)
    (cond (eqb n 5) (phase.To spelled.Exit None)
    (cond (eqb n 6) (phase.Weight spelled.Exit 0 None) phase.End))))))

within : (n : ℕ) (p : Spelled) → exists n p ≡ true → Within n (place_of p)
within n (spelled.State k) t = ltb-true k n t
within n spelled.Target t = tt
within n spelled.Exit t = tt

-- what was lacking before a weight
was_lacking : (o : Option ℕ) (w k : ℕ) → lacking o w ≡ Some k → o ≡ Some (w + k)
was_lacking None w k e = cc
was_lacking (Some x) w k e =
    elim (cases_Bool (leb w x)) [
      | inl t ↦
          let f = cond-true (leb w x) (Some (x - w)) None t in
          let g : x - w ≡ k = cc in
          let h : x ≡ w + k = omega (arith, leb-true w x t) in
          ap Some h
      | inr t ↦ let f = cond-false (leb w x) (Some (x - w)) None t in cc
    ]

nothing_lacks : (o : Option ℕ) → made_up o ≡ true → o ≡ Some 0
nothing_lacks None e = cc
nothing_lacks (Some x) e = ap Some (eqb-true x 0 e)

full : (s : Progress) → at_weight s.phase ≡ true → closed s ≡ true → lacks_at s.phase ≡ Some 0
full s w t =
    nothing_lacks (lacks_at s.phase) (sym (cond-true (at_weight s.phase) (made_up (lacks_at s.phase)) true w) ∙ t)

-- the counts keep within the rules
record Counted (r : Rules) (s : Progress) : Type 0 where
  before : s.before ≤ s.options
  options : s.options ≤ r.options
  moves : s.moves ≤ r.moves

counted : (r : Rules) (s : Progress) (i : Item) → Asks r s i → Counted r s → Counted r (after_item r s i)
counted r s item.Kind a h = omega arith
counted r s (item.States n) a h = omega arith
counted r s (item.State k) a h = omega arith
counted r s (item.Choice j) a h = omega (arith, ltb-true s.options r.options a.1)
counted r s (item.To p) a h = omega (arith, ltb-true s.moves r.moves a.2)
counted r s (item.Weight w) a h = omega arith
counted r s item.End a h = omega arith
counted r s item.Other a h = absurd a

module _ (r : Rules) where
  -- From n states, b of them begun, o options and m moves, options os more of the last state and states t lead to y.
  record Leads (n b o m : ℕ) (os : List (List SpelledMove)) (t : Tree) (y : Progress) : Type 0 where
    states : y.states ≡ n
    begun : b + length t ≡ n
    options : y.options ≡ o + (length os + length (joined t))
    moves : y.moves ≡ m + (length (joined os) + length (joined (joined t)))
    option_room : y.options ≤ r.options
    move_room : y.moves ≤ r.moves
    each-option : Every (OptionFormed r.scale n) (map (map move_of) os)
    each_state : Every (StateFormed r.scale n) (process_of t)

  -- the same from s, after k moves more of the last option
  abbrev Ahead : Progress → Progress → ℕ → List (List SpelledMove) → Tree → Type 0
  Ahead s y k os t = Leads s.states s.begun s.options (s.moves + k) os t y

  abbrev states_left : Progress → Tree → List Item
  states_left s t = state_items s.begun t ++ (item.End ∷ [])

  abbrev options_left : Progress → List (List SpelledMove) → Tree → List Item
  options_left s os t = option_items (s.options - s.before) os ++ states_left s t

  abbrev MovesAhead : Progress → List Item → Progress → List SpelledMove → List (List SpelledMove) → Tree → Type 0
  MovesAhead s is y ms os t =
      (is ≡ move_items ms ++ options_left s os t) × (lacks_at s.phase ≡ Some (weights (map move_of ms)))
      × Every (λ m. Within s.states m.place) (map move_of ms) × Ahead s y (length ms) os t

  abbrev Small : ℕ → Type 0
  Small n = (1 ≤ n) × (n ≤ 4096) × (n ≤ r.states)

  -- what items that lead from s to y are, by the phase of s
  abbrev RestAt : Phase → Progress → List Item → Progress → Type 0
  RestAt phase.Start s is y =
      (n : ℕ) × (t : Tree) × (is ≡ item.Kind ∷ (item.States n ∷ states_left s t)) × Small n
      × Ahead (after_states s n) y 0 [] t
  RestAt phase.Kind s is y =
      (n : ℕ) × (t : Tree) × (is ≡ item.States n ∷ states_left s t) × Small n × Ahead (after_states s n) y 0 [] t
  RestAt phase.States s is y = (t : Tree) × (is ≡ states_left s t) × Ahead s y 0 [] t
  RestAt phase.State s is y =
      (os : List (List SpelledMove)) × (t : Tree) × (is ≡ options_left s os t) × (1 ≤ length os) × Ahead s y 0 os t
  RestAt (phase.Choice k) s is y =
      (ms : List SpelledMove) × (os : List (List SpelledMove)) × (t : Tree) × (1 ≤ length ms)
      × MovesAhead s is y ms os t
  RestAt (phase.To p k) s is y =
      (w : ℕ) × (ms : List SpelledMove) × (os : List (List SpelledMove)) × (t : Tree)
      × (is ≡ item.Weight w ∷ (move_items ms ++ options_left s os t))
      × (lacks_at s.phase ≡ Some (w + weights (map move_of ms)))
      × Every (λ m. Within s.states m.place) (map move_of ms) × Ahead s y (length ms) os t
  RestAt (phase.Weight p w k) s is y =
      (ms : List SpelledMove) × (os : List (List SpelledMove)) × (t : Tree) × MovesAhead s is y ms os t
  RestAt phase.End s is y = (is ≡ []) × (s ≡ y)

  abbrev Rest : Progress → List Item → Progress → Type 0
  Rest s is y = RestAt (phase_of (phase_number s.phase)) s is y

  module _ (s : Progress) (h : Counted r s) (is : List Item) (y : Progress) where
    -- it is enough to show what the phase asks
    by : (n : ℕ) (js : List Item) → (phase_number s.phase == n) ≡ true → RestAt (phase_of n) s js y → Rest s js y
    by n js t x = subst (λ k. RestAt (phase_of k) s js y) (sym (eqb-true (phase_number s.phase) n t)) x

    -- an item in front of what is known to follow
    front-state : (k : ℕ) → may_state s k ≡ true → Rest (after_state s k) is y
        → (t : Tree) × (item.State k ∷ is ≡ states_left s t) × Ahead s y 0 [] t
    front-state k may x =
        let os = x.0 in
        let t = x.1 in
        let a = x.4 in
        let parts = and_parts (at_states s.phase || at_weight s.phase) _ may in
        let same : k ≡ s.begun = eqb-true k s.begun (and_parts (eqb k s.begun) _ parts.1).0 in
        let none : s.options - s.options ≡ 0 = omega arith in
        let long = length-append os (joined t) in
        let longer = length-joined-append os (joined t) in
        let same-long = length-map os (map move_of) in (
          os ∷ t,
          ap (λ l. item.State k ∷ l)
              (x.2
              ∙ ap (λ j. option_items j os ++ (state_items (k + 1) t ++ (item.End ∷ []))) none
              ∙ sym (append_assoc (option_items 0 os) (state_items (k + 1) t) (item.End ∷ [])))
              ∙ ap (λ b. item.State b ∷ ((option_items 0 os ++ state_items (b + 1) t) ++ (item.End ∷ []))) same,
          record {
            states = a.states;
            begun = omega (arith, a.begun);
            options = omega (arith, a.options);
            moves = omega (arith, a.moves);
            option_room = a.option_room;
            move_room = a.move_room;
            each-option = tt;
            each_state = (record { some_option = omega (arith, x.3); each = a.each-option }, a.each_state);
          },
        )

    front-choice : (j : ℕ) → may_choice s j ≡ true → Rest (after_choice r.scale s) is y
        → (os : List (List SpelledMove)) × (t : Tree) × (item.Choice j ∷ is ≡ options_left s os t) × (1 ≤ length os)
        × Ahead s y 0 os t
    front-choice j may x =
        let ms = x.0 in
        let os = x.1 in
        let t = x.2 in
        let a = x.4.3 in
        let parts = and_parts (at_state s.phase || at_weight s.phase) _ may in
        let same : j ≡ s.options - s.before = eqb-true j (s.options - s.before) parts.1 in
        let next : s.options + 1 - s.before ≡ s.options - s.before + 1 = omega arith in
        let long = length-append ms (joined os) in
        let same-long = length-map ms move_of in
        let sum : weights (map move_of ms) ≡ r.scale = let e = x.4.1 in cc in (
          ms ∷ os,
          t,
          (λ i. item.Choice (same i) ∷ x.4.0 i)
              ∙ ap (λ k. item.Choice (s.options - s.before) ∷ (move_items ms ++ (option_items k os ++ states_left s t))) next
              ∙ ap (λ l. item.Choice (s.options - s.before) ∷ l)
              (sym (append_assoc (move_items ms) (option_items (s.options - s.before + 1) os) (states_left s t))),
          omega arith,
          record {
            states = a.states;
            begun = a.begun;
            options = omega (arith, a.options);
            moves = omega (arith, a.moves);
            option_room = a.option_room;
            move_room = a.move_room;
            each-option =
                (record { some_move = omega (arith, x.3); sum = sum; places = x.4.2 }, a.each-option);
            each_state = a.each_state;
          },
        )

    front-to : (p : Spelled) → exists s.states p ≡ true → Rest (after_to s p) is y
        → (ms : List SpelledMove) × (os : List (List SpelledMove)) × (t : Tree) × (1 ≤ length ms)
        × MovesAhead s (item.To p ∷ is) y ms os t
    front-to p found x =
        let ms = x.1 in
        let one : SpelledMove = record { to = p; weight = x.0 } in
        let same : s.moves + 1 + length ms ≡ s.moves + length (one ∷ ms) = omega arith in
        let ahead = subst (λ m. Leads s.states s.begun s.options m x.2 x.3 y) same x.7 in (
          one ∷ ms,
          x.2,
          x.3,
          omega arith,
          (ap (λ l. item.To p ∷ l) x.4, x.5, (within s.states p found, x.6), ahead),
        )

    ahead_none : s.begun ≡ s.states → Ahead s (after_end s) 0 [] []
    ahead_none e =
        record {
          states = refl;
          begun = omega arith;
          options = omega arith;
          moves = omega arith;
          option_room = omega (arith, h);
          move_room = omega (arith, h);
          each-option = tt;
          each_state = tt;
        }

    before : (i : Item) → Asks r s i → Rest (after_item r s i) is y → Rest s (i ∷ is) y
    before item.Kind a u = by 0 (item.Kind ∷ is) a (u.0, u.1, ap (λ l. item.Kind ∷ l) u.2, u.3, u.4)
    before (item.States n) a u =
        let small = between-says 1 4096 n a.1 in
        by 1 (item.States n ∷ is) a.0
        (n, u.0, ap (λ l. item.States n ∷ l) u.1, (small.0, small.1, leb-true n r.states a.2), u.2)
    before (item.State k) a x =
        let u = front-state k a.0 x in
        let may = (and_parts (at_states s.phase || at_weight s.phase) _ a.0).0 in
        ⊎_elim (λ p. by 2 (item.State k ∷ is) p u)
        (λ p. by 6 (item.State k ∷ is) p ([], [], u.0, (u.1, full s p a.1, tt, u.2)))
        (or_cases (at_states s.phase) (at_weight s.phase) may)
    before (item.Choice j) a x =
        let u = front-choice j a.0 x in
        let may = (and_parts (at_state s.phase || at_weight s.phase) _ a.0).0 in
        ⊎_elim (λ p. by 3 (item.Choice j ∷ is) p u)
        (λ p. by 6 (item.Choice j ∷ is) p ([], u.0, u.1, (u.2, full s p a.2, tt, u.4)))
        (or_cases (at_state s.phase) (at_weight s.phase) may)
    before (item.To p) a x =
        let u = front-to p a.1 x in
        ⊎_elim (λ q. by 4 (item.To p ∷ is) q u)
        (λ q. by 6 (item.To p ∷ is) q (u.0, u.1, u.2, u.4))
        (or_cases (at_choice s.phase) (at_weight s.phase) a.0)
    before (item.Weight w) a u =
        let m = u.3 in
        by 5 (item.Weight w ∷ is) a.0 (
          w,
          u.0,
          u.1,
          u.2,
          ap (λ l. item.Weight w ∷ l) m.0,
          was_lacking (lacks_at s.phase) w (weights (map move_of u.0)) m.1,
          m.2,
          m.3,
        )
    before item.End a u =
        let may = and_parts (at_weight s.phase) (eqb s.begun s.states) a.0 in
        let none = subst (λ q. Ahead s q 0 [] []) u.1 (ahead_none (eqb-true s.begun s.states may.1)) in
        by 6 (item.End ∷ is) may.0 ([], [], [], (ap (λ l. item.End ∷ l) u.0, full s may.0 a.1, tt, none))
    before item.Other a u = absurd a

  run_more : (s : Progress) (at : ℕ) (i : Item) (is : List Item) (y : Progress) → Counted r s
      → ((z : Progress) → Counted r z → run r z (at + 1) is ≡ Ok y → Rest z is y)
      → (v : Result Progress Telling) → on_item r s at i ≡ v → then v (λ z. run r z (at + 1) is) ≡ Ok y
      → Rest s (i ∷ is) y
  run_more s at i is y h rest (Err f) g e = cc
  run_more s at i is y h rest (Ok z) g e =
      let t = taken r s at i z g in
      before s h is y i t.0
      (rest (after_item r s i) (counted r s i t.0 h) (ap (λ z. run r z (at + 1) is) t.1 ∙ e))

  run_rest : (is : List Item) (s : Progress) (at : ℕ) (y : Progress) → Counted r s → run r s at is ≡ Ok y → Rest s is y
  run_rest [] s at y h e =
      let b = at_end s.phase in
      ⊎_elim (λ t. let f = cond-true b (Ok s) (Err (at_text 12 at)) t in by s h [] y 7 [] t (refl, cc))
      (λ t. let f = cond-false b (Ok s) (Err (at_text 12 at)) t in cc) (cases_Bool b)
  run_rest (i ∷ is) s at y h e =
      run_more s at i is y h (λ z k f. run_rest is z (at + 1) y k f) (on_item r s at i) refl e

pub run_spells : (d first : ℕ) (l : Lists) (is : List Item) (y : Progress) → 1 ≤ d → d ≤ 65536
    → run (rules_of d l) start first is ≡ Ok y
    → (t : Tree) × Fits d l t × (is ≡ depot_items t) × (size (depot (rules_of d l) y) ≡ size_of t)
    × (wrote (rules_of d l) start first l is ≡ spread (encoding (process_of t)) l)
run_spells d first l is y some limit e =
    let r = rules_of d l in
    let x = run_rest r is start first y (let c : Counted r start = omega arith in c) e in
    let n = x.0 in
    let t = x.1 in
    let a = x.4 in
    let all : n ≡ length t = omega (arith, a.begun) in
    let long = length-map t (map (map move_of)) in
    let long-o = length_options t in
    let long-m = length-moves t in
    let same : n ≡ length (process_of t) = omega arith in
    let items : is ≡ depot_items t =
    x.2 ∙ ap (λ k. item.Kind ∷ (item.States k ∷ (state_items 0 t ++ (item.End ∷ [])))) all in
    let states : y.states ≡ length t = a.states ∙ all in
    let options : y.options ≡ length (joined t) = omega (arith, a.options) in
    let moves : y.moves ≡ length (joined (joined t)) = omega (arith, a.moves) in
    let formed : Formed d (process_of t) =
    record {
      scale_positive = some;
      scale_limit = limit;
      some_state = omega (arith, x.3);
      state_limit = omega (arith, x.3);
      option_limit = omega (arith, a.option_room);
      move_limit = omega (arith, a.move_room);
      each = subst (λ k. Every (StateFormed d k) (process_of t)) same a.each_state;
    } in
    let some_option : 1 ≤ length (joined (process_of t)) =
    some-joined (process_of t) (omega (arith, x.3))
    (All-weaker (StateFormed d n) (λ os. 1 ≤ length os) (λ os f. f.some_option) (process_of t) a.each_state) in
    let fits : Fits d l t =
    record {
      formed = formed;
      state_room = omega (arith, x.3);
      option_room = omega (arith, a.option_room);
      move_room = omega (arith, a.move_room);
    } in (
      t,
      fits,
      items,
      (λ i. record { states = states i; options = options i; moves = moves i }),
      ap (wrote r start first l) items ∙ run_writes d first l t fits,
    )
