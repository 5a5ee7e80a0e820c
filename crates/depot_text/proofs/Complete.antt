-- The lines of a depot that fits run to the end, and leave its encoding in the lists.
use Rattle.std.proofs.Common.{◌≡◌, ℕ, ◌+◌, ◌-◌, ◌*◌, ◌<◌, ◌≤◌, true, ◌||◌, leb, List, [], ◌∷◌, ◌++◌, map, length, set, Some, Ok, sym, refl, ap, ◌∙◌, subst, append_assoc, append-nil, arith, length-append}
use lib.ListN.{length-map}
use Rattle.std.specs.List.{AllByRecursion as Every}
use Rattle.std.proofs.lemmas.List.{length_push, map-append}
use Rattle.std.proofs.lemmas.Bool.{cond-true, and_from, or_right, lt-ltb, le-leb, eq-eqb}
use Rattle.refusal.proofs.Tests.{says-between}
use Rattle.process.specs.Process.{joined, weights, Within, OptionFormed, StateFormed}
use Rattle.process.proofs.Joined.{joined-append, length-joined-append}
use Rattle.encoding.specs.Lists.{Lists, lists}
use Rattle.encoding.specs.Writing.{encoding, starts_from, moves_written, place_number}
use Rattle.encoding.proofs.Moves.{length-moves_written}
use Rattle.passes.specs.Passes.{then}
use Rattle.depot_text.specs.declared.item.Spelled.{Spelled}
use Rattle.depot_text.specs.declared.item.Spelled.TheVariants as spelled
use Rattle.depot_text.specs.declared.item.Item.{Item}
use Rattle.depot_text.specs.declared.item.Item.TheVariants as item
use Rattle.depot_text.specs.declared.progress.Rules.{Rules}
use Rattle.depot_text.specs.declared.progress.Progress.{Progress}
use Rattle.depot_text.specs.Machine.{at_states, at_state, at_weight, at_end, lacks_at, lacking, made_up, closed, exists, start}
use Rattle.depot_text.specs.Machine.{may_to}
use Rattle.depot_text.specs.Machine.{after_kind, after_states, after_state, after_choice}
use Rattle.depot_text.specs.Machine.{after_to, after_weight, after_end}
use Rattle.depot_text.specs.Loading.{place_of, depot, puts, rules_of}
use Rattle.passes.specs.Over.{over}
use Rattle.passes.proofs.Over.{set_over}
use Rattle.depot_text.specs.Spelling.{SpelledMove, Tree, Fits, move_of, process_of, spread}
use Rattle.depot_text.specs.Spelling.{move_items, option_items, state_items, depot_items}
use Rattle.depot_text.proofs.Runs.{run, wrote, onward}
use Rattle.depot_text.proofs.Taken.{Asks, after_item, takes}
use Rattle.depot_text.proofs.Filling.{heads, length_heads, starts-append, starts-map}
use Rattle.depot_text.proofs.Filling.{joined-map, moves_written-append}

present : (n : ℕ) (p : Spelled) → Within n (place_of p) → exists n p ≡ true
present n (spelled.State k) h = lt-ltb k n h
present n spelled.Target h = refl
present n spelled.Exit h = refl

-- items lead from one progress and lists to others
record Goes (r : Rules) (s : Progress) (l : Lists) (is : List Item) (y : Progress) (k : Lists) : Type 0 where
  line : ℕ → ℕ
  runs : (at : ℕ) (rest : List Item) → run r s at (is ++ rest) ≡ run r y (line at) rest
  writes : (at : ℕ) (rest : List Item) → wrote r s at l (is ++ rest) ≡ wrote r y (line at) k rest

goes_none : (r : Rules) (s : Progress) (l : Lists) → Goes r s l [] s l
goes_none r s l = record { line = λ at. at; runs = λ at rest. refl; writes = λ at rest. refl }

goes_one : {r : Rules} {s : Progress} {l : Lists} (i : Item) → Asks r s i
    → Goes r s l (i ∷ []) (after_item r s i) (puts (depot r (after_item r s i)) l)
goes_one {r} {s} {l} i a =
    record {
      line = λ at. at + 1;
      runs = λ at rest. ap (λ w. then w (λ x. run r x (at + 1) rest)) (takes r s at i a);
      writes = λ at rest. ap (λ w. onward w l (λ x. wrote r x (at + 1) (puts (depot r x) l) rest)) (takes r s at i a);
    }

module _ {r : Rules} {s y : Progress} {l : Lists} where
  goes_then : {z : Progress} {k m : Lists} {is js : List Item} → Goes r s l is y k → Goes r y k js z m
      → Goes r s l (is ++ js) z m
  goes_then {z} {k} {m} {is} {js} p q =
      record {
        line = λ at. q.line (p.line at);
        runs = λ at rest.
            ap (run r s at) (append_assoc is js rest) ∙ p.runs at (js ++ rest) ∙ q.runs (p.line at) rest;
        writes = λ at rest.
            ap (wrote r s at l) (append_assoc is js rest) ∙ p.writes at (js ++ rest) ∙ q.writes (p.line at) rest;
      }

  goes_as : {k m : Lists} {is : List Item} → k ≡ m → Goes r s l is y k → Goes r s l is y m
  goes_as {k} {m} {is} e g = subst (λ z. Goes r s l is y z) e g

  goes_items : {k : Lists} {is js : List Item} → is ≡ js → Goes r s l is y k → Goes r s l js y k
  goes_items {k} {is} {js} e g = subst (λ z. Goes r s l z y k) e g

-- the counts of a progress
record Counts (s : Progress) (n b f o m : ℕ) : Type 0 where
  states : s.states ≡ n
  begun : s.begun ≡ b
  before : s.before ≡ f
  options : s.options ≡ o
  moves : s.moves ≡ m

abbrev Late : Progress → Type 0
Late s = at_weight s.phase ≡ true

late_closed : (s : Progress) → Late s → lacks_at s.phase ≡ Some 0 → closed s ≡ true
late_closed s w e = cond-true (at_weight s.phase) (made_up (lacks_at s.phase)) true w ∙ ap made_up e

lacking_less : (w k : ℕ) → lacking (Some (w + k)) w ≡ Some k
lacking_less w k =
    let e : w + k - w ≡ k = omega arith in
    cond-true (leb w (w + k)) (Some (w + k - w)) _ (le-leb w (w + k) (omega arith)) ∙ ap Some e

moves_more : (C : List ℕ) (xs ys : List SpelledMove)
    → (C ++ moves_written (map move_of xs)) ++ moves_written (map move_of ys)
    ≡ C ++ moves_written (map move_of (xs ++ ys))
moves_more C xs ys =
    append_assoc C (moves_written (map move_of xs)) (moves_written (map move_of ys))
    ∙ ap (λ l. C ++ l)
    (sym (ap moves_written (map-append move_of xs ys) ∙ moves_written-append (map move_of xs) (map move_of ys)))

-- what n states, u options and v moves need
record Room (r : Rules) (n u v : ℕ) (O S M : List ℕ) : Type 0 where
  states : n < length O
  options : u < length S
  moves : 2 * v ≤ length M
  option_rule : u ≤ r.options
  move_rule : v ≤ r.moves

module _ (r : Rules) (n u v : ℕ) (O S M : List ℕ) (room : Room r n u v O S M) where
  -- lists that are filled so far
  abbrev fill : List ℕ → List ℕ → List ℕ → Lists
  fill A B C = lists (over A O) (over B S) (over C M)

  module _ (A B : List ℕ) (b f o : ℕ) where
    one_move : (x : SpelledMove) (m : ℕ) (s : Progress) (C : List ℕ) → Counts s n b f o m → may_to s ≡ true
        → Within n (place_of x.to) → x.weight ≤ r.scale → m < v → length C ≡ 2 * m
        → Goes r s (fill A B C) (item.To x.to ∷ (item.Weight x.weight ∷ []))
        (after_weight (after_to s x.to) x.weight)
        (fill A B (C ++ moves_written (move_of x ∷ [])))
    one_move x m s C c may h small more long =
        let p = x.to in
        let w = x.weight in
        let q = place_number (place_of p) in
        let first : Asks r s (item.To p) = (
          may,
          present s.states p (subst (λ i. Within i (place_of p)) (sym c.states) h),
          lt-ltb s.moves r.moves (omega (arith, c.moves, room.move_rule)),
        ) in
        let i = 2 * (s.moves + 1 - 1) in
        let there : i ≡ length C = omega (arith, c.moves) in
        let more-long = length_push C q in
        let filled : set (set (over C M) i q) (i + 1) w ≡ over (C ++ (q ∷ (w ∷ []))) M =
        ap (λ z. set z (i + 1) w) (set_over C M i q there (omega (arith, c.moves, room.moves)))
        ∙ set_over (C ++ (q ∷ [])) M (i + 1) w (omega arith) (omega (arith, c.moves, room.moves))
        ∙ ap (λ z. over z M) (append_assoc C (q ∷ []) (w ∷ [])) in
        goes_as (ap (λ z. lists (over A O) (over B S) z) filled)
        (goes_then (goes_one (item.To p) first) (goes_one (item.Weight w) (refl, le-leb w r.scale small)))

    -- moves that are left of an option: nothing is lacking after them
    moves_on : (todo : List SpelledMove) (m : ℕ) (s : Progress) (C : List ℕ) → Counts s n b f o m → may_to s ≡ true
        → (length todo ≡ 0 → Late s) → lacks_at s.phase ≡ Some (weights (map move_of todo))
        → Every (λ x. Within n x.place) (map move_of todo) → weights (map move_of todo) ≤ r.scale
        → m + length todo ≤ v → length C ≡ 2 * m
        → (y : Progress) × Counts y n b f o (m + length todo) × Late y × (lacks_at y.phase ≡ Some 0)
        × Goes r s (fill A B C) (move_items todo) y (fill A B (C ++ moves_written (map move_of todo)))
    moves_on [] m s C c may late lacks hs small more long =
        let d : Counts s n b f o (m + 0) = omega (arith, c) in
        (s, d, late refl, lacks, goes_as (ap (λ z. fill A B z) (sym (append-nil C))) (goes_none r s (fill A B C)))
    moves_on (x ∷ todo) m s C c may late lacks hs small more long =
        let k = weights (map move_of todo) in
        let y = after_weight (after_to s x.to) x.weight in
        let D = C ++ moves_written (move_of x ∷ []) in
        let go = one_move x m s C c may hs.0 (omega arith) (omega arith) long in
        let d : Counts y n b f o (m + 1) = omega (arith, c) in
        let left : lacks_at y.phase ≡ Some k = ap (λ z. lacking z x.weight) lacks ∙ lacking_less x.weight k in
        let far = length-append C (moves_written (move_of x ∷ [])) in
        let g = moves_on todo (m + 1) y D d refl (λ _. refl) left hs.1 (omega arith) (omega arith) (omega arith) in
        let same = append_assoc C (moves_written (move_of x ∷ [])) (moves_written (map move_of todo)) in
        let e = g.1 in
        let count : Counts g.0 n b f o (m + length (x ∷ todo)) = omega (arith, e) in
        (g.0, count, g.2, g.3, goes_as (ap (λ z. fill A B z) same) (goes_then go g.4))

  module _ (A : List ℕ) (b f : ℕ) where
    -- options that are left of a state, the first of them number j
    options_on : (todo : List (List SpelledMove)) (j o m : ℕ) (s : Progress) (B C : List ℕ) → Counts s n b f o m
        → (at_state s.phase || at_weight s.phase) ≡ true → closed s ≡ true
        → (length todo ≡ 0 → Late s) → Every (OptionFormed r.scale n) (map (map move_of) todo)
        → f + j ≡ o → o + length todo ≤ u → m + length (joined todo) ≤ v → length B ≡ o → length C ≡ 2 * m
        → (y : Progress) × Counts y n b f (o + length todo) (m + length (joined todo)) × Late y × (closed y ≡ true)
        × Goes r s (fill A B C) (option_items j todo) y
        (fill A (B ++ heads m todo) (C ++ moves_written (map move_of (joined todo))))
    options_on [] j o m s B C c may full late fs nth more-o more-m long-b long-c =
        let d : Counts s n b f (o + 0) (m + 0) = omega (arith, c) in
        let x = sym (append-nil B) in
        let y = sym (append-nil C) in
        (s, d, late refl, full, goes_as (λ i. fill A (x i) (y i)) (goes_none r s (fill A B C)))
    options_on (ms ∷ todo) j o m s B C c may full late fs nth more-o more-m long-b long-c =
        let s1 = after_choice r.scale s in
        let i = s.options + 1 - 1 in
        let W = C ++ moves_written (map move_of ms) in
        let long = length-append ms (joined todo) in
        let same-long = length-map ms move_of in
        let push = length_push B m in
        let long-w = length-append C (moves_written (map move_of ms)) in
        let long-m = length-moves_written (map move_of ms) in
        let own : j ≡ s.options - s.before = omega (arith, c) in
        let some : 1 ≤ length ms = omega (arith, fs.0.some_move) in
        let first : Asks r s (item.Choice j) = (
          and_from _ _ may (eq-eqb j (s.options - s.before) own),
          lt-ltb s.options r.options (omega (arith, c, room.option_rule)),
          full,
        ) in
        let filled : set (over B S) i s.moves ≡ over (B ++ (m ∷ [])) S =
        set_over B S i s.moves (omega (arith, c)) (omega (arith, c, room.options))
        ∙ ap (λ z. over (B ++ (z ∷ [])) S) c.moves in
        let d : Counts s1 n b f (o + 1) m = omega (arith, c) in
        let g =
        moves_on A (B ++ (m ∷ [])) b f (o + 1) ms m s1 C d refl (λ z. absurd (omega arith))
        (ap Some (sym fs.0.sum)) fs.0.places (omega (arith, fs.0.sum)) (omega arith) long-c in
        let y = g.0 in
        let h =
        options_on todo (j + 1) (o + 1) (m + length ms) y (B ++ (m ∷ [])) W g.1
        (or_right (at_state y.phase) _ g.2) (late_closed y g.2 g.3) (λ _. g.2) fs.1
        (omega arith) (omega arith) (omega arith) (omega arith) (omega arith) in
        let e = h.1 in
        let count : Counts h.0 n b f (o + length (ms ∷ todo)) (m + length (joined (ms ∷ todo))) = omega (arith, e) in
        let x = append_assoc B (m ∷ []) (heads (m + length ms) todo) in
        let z = moves_more C ms (joined todo) in (
          h.0,
          count,
          h.2,
          h.3,
          goes_as {y = h.0} (λ i. fill A (x i) (z i))
              (goes_then {y = s1} {z = h.0}
              (goes_as (ap (λ z. lists (over A O) z (over C M)) filled) (goes_one (item.Choice j) first))
              (goes_then {y = y} {z = h.0} g.4 h.4)),
        )

  -- states that are left, and the end
  states_on : (todo : Tree) (b f o m : ℕ) (s : Progress) (A B C : List ℕ) → Counts s n b f o m
      → (at_states s.phase || at_weight s.phase) ≡ true → closed s ≡ true
      → (length todo ≡ 0 → Late s) → Every (StateFormed r.scale n) (process_of todo)
      → b + length todo ≡ n → o + length (joined todo) ≤ u → m + length (joined (joined todo)) ≤ v
      → length A ≡ b → length B ≡ o → length C ≡ 2 * m
      → (y : Progress) × (at_end y.phase ≡ true)
      × Goes r s (fill A B C) (state_items b todo ++ (item.End ∷ [])) y
      (fill (A ++ starts_from o todo) (B ++ starts_from m (joined todo))
      (C ++ moves_written (map move_of (joined (joined todo)))))
  states_on [] b f o m s A B C c may full late fs all more-o more-m long-a long-b long-c =
      let last : Asks r s item.End =
      (and_from _ _ (late refl) (eq-eqb s.begun s.states (omega (arith, c))), full) in
      let x =
      set_over A O s.begun s.options (omega (arith, c)) (omega (arith, c, room.states))
      ∙ ap (λ z. over (A ++ (z ∷ [])) O) c.options in
      let y =
      set_over B S s.options s.moves (omega (arith, c)) (omega (arith, c, room.options))
      ∙ ap (λ z. over (B ++ (z ∷ [])) S) c.moves in
      let z = ap (λ l. over l M) (sym (append-nil C)) in
      (after_end s, refl, goes_as (λ i. lists (x i) (y i) (z i)) (goes_one item.End last))
  states_on (os ∷ todo) b f o m s A B C c may full late fs all more-o more-m long-a long-b long-c =
      let s1 = after_state s b in
      let first : Asks r s (item.State b) = (
        and_from _ _ may (and_from _ _ (eq-eqb b s.begun (omega (arith, c))) (lt-ltb b s.states (omega (arith, c)))),
        full,
      ) in
      let filled : set (over A O) (b + 1 - 1) s.options ≡ over (A ++ (o ∷ [])) O =
      set_over A O (b + 1 - 1) s.options (omega arith) (omega (arith, room.states))
      ∙ ap (λ z. over (A ++ (z ∷ [])) O) c.options in
      let d : Counts s1 n (b + 1) o o m = omega (arith, c) in
      let same-long = length-map os (map move_of) in
      let some : 1 ≤ length os = omega (arith, fs.0.some_option) in
      let long = length-append os (joined todo) in
      let longer = length-joined-append os (joined todo) in
      let g =
      options_on (A ++ (o ∷ [])) (b + 1) o os 0 o m s1 B C d refl refl (λ z. absurd (omega arith)) fs.0.each
      (omega arith) (omega arith) (omega arith) long-b long-c in
      let y = g.0 in
      let V = B ++ heads m os in
      let W = C ++ moves_written (map move_of (joined os)) in
      let push = length_push A o in
      let long-v = length-append B (heads m os) in
      let long-h = length_heads m os in
      let long-w = length-append C (moves_written (map move_of (joined os))) in
      let long-m = length-moves_written (map move_of (joined os)) in
      let long-j = length-map (joined os) move_of in
      let h =
      states_on todo (b + 1) o (o + length os) (m + length (joined os)) y (A ++ (o ∷ [])) V W g.1
      (or_right (at_states y.phase) _ g.2) g.3 (λ _. g.2) fs.1
      (omega arith) (omega arith) (omega arith) (omega arith) (omega arith) (omega arith) in
      let x = append_assoc A (o ∷ []) (starts_from (o + length os) todo) in
      let z =
      append_assoc B (heads m os) (starts_from (m + length (joined os)) (joined todo))
      ∙ ap (λ l. B ++ l) (sym (starts-append m os (joined todo))) in
      let w =
      moves_more C (joined os) (joined (joined todo))
      ∙ ap (λ l. C ++ moves_written (map move_of l)) (sym (joined-append os (joined todo))) in
      let grouped = append_assoc (option_items 0 os) (state_items (b + 1) todo) (item.End ∷ []) in
      let go =
      goes_then {y = s1} {z = h.0}
      (goes_as (ap (λ z. lists z (over B S) (over C M)) filled) (goes_one (item.State b) first))
      (goes_then {y = y} {z = h.0} g.4 h.2) in (
        h.0,
        h.1,
        goes_as {y = h.0} (λ i. fill (x i) (z i) (w i))
            (goes_items {y = h.0} (ap (λ l. item.State b ∷ l) (sym grouped)) go),
      )

-- the process has as many options and moves, and they are the same
all_moves : (t : Tree) → joined (joined (process_of t)) ≡ map move_of (joined (joined t))
all_moves t = ap joined (joined-map (map move_of) t) ∙ joined-map move_of (joined t)

pub length_options : (t : Tree) → length (joined (process_of t)) ≡ length (joined t)
length_options t = ap length (joined-map (map move_of) t) ∙ length-map (joined t) (map move_of)

pub length-moves : (t : Tree) → length (joined (joined (process_of t))) ≡ length (joined (joined t))
length-moves t = ap length (all_moves t) ∙ length-map (joined (joined t)) move_of

module _ (d : ℕ) (l : Lists) (t : Tree) (h : Fits d l t) where
  depot_goes : (y : Progress) × (at_end y.phase ≡ true)
      × Goes (rules_of d l) start l (depot_items t) y (spread (encoding (process_of t)) l)
  depot_goes =
      let r = rules_of d l in
      let n = length t in
      let s1 = after_kind start in
      let s2 = after_states s1 n in
      let f = h.formed in
      let long = length-map t (map (map move_of)) in
      let long-o = length_options t in
      let long-m = length-moves t in
      let room : Room r n (length (joined t)) (length (joined (joined t))) l.option_starts l.move_starts l.moves =
      omega (arith, f, h) in
      let states : Asks r s1 (item.States n) = (
        refl,
        says-between 1 4096 n (omega (arith, f.some_state)) (omega (arith, f.state_limit)),
        le-leb n r.states (omega (arith, f.state_limit, h.state_room)),
      ) in
      let zero : Counts s2 n 0 0 0 0 = omega arith in
      let g =
      states_on r n (length (joined t)) (length (joined (joined t))) l.option_starts l.move_starts l.moves room
      t 0 0 0 0 s2 [] [] [] zero refl refl (λ z. absurd (omega (arith, f.some_state)))
      (subst (λ k. Every (StateFormed d k) (process_of t)) long f.each)
      (omega arith) (omega arith) (omega arith) refl refl refl in
      let x = sym (starts-map (map move_of) 0 t) in
      let y = sym (ap (starts_from 0) (joined-map (map move_of) t) ∙ starts-map move_of 0 (joined t)) in
      let z = ap moves_written (sym (all_moves t)) in (
        g.0,
        g.1,
        goes_as {y = g.0} (λ i. spread (lists (x i) (y i) (z i)) l)
            (goes_then {y = s1} {z = g.0} (goes_one item.Kind refl)
            (goes_then {y = s2} {z = g.0} (goes_one (item.States n) states) g.2)),
      )

pub spelled_runs : (d first : ℕ) (l : Lists) (t : Tree) → Fits d l t
    → (y : Progress) × (run (rules_of d l) start first (depot_items t) ≡ Ok y)
spelled_runs d first l t h =
    let g = depot_goes d l t h in
    let y = g.0 in (
      y,
      ap (run (rules_of d l) start first) (sym (append-nil (depot_items t)))
          ∙ g.2.runs first []
          ∙ cond-true (at_end y.phase) (Ok y) _ g.1,
    )

pub run_writes : (d first : ℕ) (l : Lists) (t : Tree) → Fits d l t
    → wrote (rules_of d l) start first l (depot_items t) ≡ spread (encoding (process_of t)) l
run_writes d first l t h =
    ap (wrote (rules_of d l) start first l) (sym (append-nil (depot_items t))) ∙ (depot_goes d l t h).2.writes first []
