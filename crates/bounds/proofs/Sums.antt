-- Sums over options and over states, and the one exchanged for the other.
use Rattle.std.proofs.Common.{◌≡◌, ℕ, zero, suc, ◌+◌, ◌*◌, ◌<◌, ◌≤◌, cond, ltb, List, [], ◌∷◌, ◌++◌, length, get_or, take, drop, sum, sym, refl, ap, ◌∙◌, inl, inr, suc-le-suc, mul-le-mul_left, arith}
use mathlib.Core.Path.{fun_ext}
use Rattle.std.specs.List.{AllByRecursion as Every}
use Rattle.std.proofs.lemmas.List.{get_or_past, length-append, length-take, drop-drop}
use Rattle.std.proofs.lemmas.List.Sums.{sum_by-cons}
use Rattle.std.proofs.lemmas.Bool.{cases_lt, cases_order, lt-ltb, le-ltb, eq-eqb, ne_eqb}
use Rattle.process.specs.declared.place.Move.{Move}
use Rattle.process.specs.Process.{Process, joined}
use Rattle.process.specs.Means.{mean, worth}
use Rattle.bounds.specs.Vectors.{value_at, total, one_at, weight_to, weight_to_target, carried, Options, flow, own}
use Rattle.bounds.proofs.Means.{worth_eq}

-- sums over options
pub flow_eq : (a b c : ℕ) (f g h : List Move → ℕ) → ((ms : List Move) → a * f ms ≡ b * g ms + c * h ms)
    → (y : List ℕ) (os : List (List Move)) → a * flow f y os ≡ b * flow g y os + c * flow h y os
flow_eq a b c f g h eq [] os = omega arith
flow_eq a b c f g h eq (y ∷ ys) [] = omega arith
flow_eq a b c f g h eq (y ∷ ys) (ms ∷ os) =
    omega (arith, ap (λ (x : ℕ). y * x) (eq ms), flow_eq a b c f g h eq ys os)

pub flow-append : (f : List Move → ℕ) (y : List ℕ) (os rest : List (List Move))
    → flow f y (os ++ rest) ≡ flow f (take (length os) y) os + flow f (drop (length os) y) rest
flow-append f y [] rest = omega arith
flow-append f [] (ms ∷ os) rest = omega arith
flow-append f (y ∷ ys) (ms ∷ os) rest = omega (arith, flow-append f ys os rest)

pub flow_under : (f : List Move → ℕ) (b : ℕ) (y : List ℕ) (os : List (List Move)) → Every (λ ms. f ms ≤ b) os
    → flow f y os ≤ sum y * b
flow_under f b [] os all = omega arith
flow_under f b (y ∷ ys) [] all = omega arith
flow_under f b (y ∷ ys) (ms ∷ os) all =
    rw (sum_by-cons (λ x. x) y ys) (omega (arith, mul-le-mul_left y all.0, flow_under f b ys os all.1))

pub flow-over : (f : List Move → ℕ) (b : ℕ) (y : List ℕ) (os : List (List Move)) → length y ≤ length os
    → Every (λ ms. b ≤ f ms) os → sum y * b ≤ flow f y os
flow-over f b [] os l all = omega arith
flow-over f b (y ∷ ys) [] l all = omega arith
flow-over f b (y ∷ ys) (ms ∷ os) l all =
    rw (sum_by-cons (λ x. x) y ys)
    (omega (arith, mul-le-mul_left y all.0, flow-over f b ys os (omega arith) all.1))

-- sums over states
pub total_le : (a b c n : ℕ) (F G H : ℕ → ℕ) → ((s : ℕ) → s < n → a * F s ≤ b * G s + c * H s)
    → a * total n F ≤ b * total n G + c * total n H
total_le a b c zero F G H le = omega arith
total_le a b c (suc n) F G H le =
    omega (
      arith,
      le 0 (omega arith),
      total_le a b c n (λ s. F (suc s)) (λ s. G (suc s)) (λ s. H (suc s)) (λ s l. le (suc s) (suc-le-suc l)),
    )

pub total-last : (n : ℕ) (F : ℕ → ℕ) → total (suc n) F ≡ total n F + F n
total-last zero F = omega arith
total-last (suc n) F = omega (arith, total-last n (λ s. F (suc s)))

pub total-add : (n : ℕ) (F G : ℕ → ℕ) → total n (λ s. F s + G s) ≡ total n F + total n G
total-add zero F G = omega arith
total-add (suc n) F G = omega (arith, total-add n (λ s. F (suc s)) (λ s. G (suc s)))

pub total-start : (n k : ℕ) (V : ℕ → ℕ) → 1 ≤ n → total n (λ s. V s * (k * one_at 0 s)) ≡ k * V 0
total-start zero k V l = omega arith
total-start (suc n) k V l =
    omega (
      arith,
      total_le 1 0 0 n (λ s. V (suc s) * (k * one_at 0 (suc s))) (λ _. 0) (λ _. 0)
          (λ s l. rw (ne_eqb (suc s) 0 (λ e. omega arith)) (omega arith)),
    )

-- the y of a state, by the states before it
pub own-after : (os : List (List Move)) (p : Process) (y : List ℕ) (s : ℕ)
    → own (os ∷ p) y (suc s) ≡ own p (drop (length os) y) s
own-after os p y s =
    ap (λ (k : ℕ). sum (take (length (get_or p s [])) (drop k y))) (length-append os (joined (take s p)))
    ∙ ap (λ (l : List ℕ). sum (take (length (get_or p s [])) l)) (sym (drop-drop (length (joined (take s p))) (length os) y))

total-own : (os : List (List Move)) (p : Process) (y : List ℕ) (V : ℕ → ℕ) (n : ℕ)
    → total n (λ s. own (os ∷ p) y (suc s) * V (suc s)) ≡ total n (λ s. own p (drop (length os) y) s * V (suc s))
total-own os p y V n = ap (total n) (fun_ext (λ s. ap (λ (x : ℕ). x * V (suc s)) (own-after os p y s)))

pub flow_states_under : (f : List Move → ℕ) (V : ℕ → ℕ) (p : Process) (y : List ℕ) → Options p (λ s ms. f ms ≤ V s)
    → flow f y (joined p) ≤ total (length p) (λ s. own p y s * V s)
flow_states_under f V [] [] each = omega arith
flow_states_under f V [] (y ∷ ys) each = omega arith
flow_states_under f V (os ∷ p) y each =
    omega (
      arith,
      flow-append f y os (joined p),
      total-own os p y V (length p),
      flow_under f (V 0) (take (length os) y) os (each 0 (omega arith)),
      flow_states_under f (λ s. V (suc s)) p (drop (length os) y) (λ s l. each (suc s) (suc-le-suc l)),
    )

pub flow_states_over : (f : List Move → ℕ) (V : ℕ → ℕ) (p : Process) (y : List ℕ) → Options p (λ s ms. V s ≤ f ms)
    → total (length p) (λ s. own p y s * V s) ≤ flow f y (joined p)
flow_states_over f V [] y each = omega arith
flow_states_over f V (os ∷ p) y each =
    omega (
      arith,
      flow-append f y os (joined p),
      total-own os p y V (length p),
      flow-over f (V 0) (take (length os) y) os (omega (arith, length-take (length os) y)) (each 0 (omega arith)),
      flow_states_over f (λ s. V (suc s)) p (drop (length os) y) (λ s l. each (suc s) (suc-le-suc l)),
    )

-- sums over options and over states exchanged
below : ℕ → (ℕ → ℕ) → ℕ → ℕ
below n V s = cond (ltb s n) (V s) 0

below_more : (n : ℕ) (V : ℕ → ℕ) (s : ℕ) → 1 * below (suc n) V s ≡ 1 * below n V s + V n * one_at n s
unfolding below
below_more n V s =
    elim (cases_order s n) [
      | inl e ↦ rw (lt-ltb s (suc n) (omega arith), le-ltb s n (omega arith), eq-eqb s n e) (omega (arith, ap V e))
      | inr (inl l) ↦ rw (lt-ltb s (suc n) (omega arith), lt-ltb s n l, ne_eqb s n (λ e. omega arith)) (omega arith)
      | inr (inr l) ↦ rw (le-ltb s (suc n) (omega arith), le-ltb s n (omega arith), ne_eqb s n (λ e. omega arith)) (omega arith)
    ]

below_none : (V : ℕ → ℕ) (s : ℕ) → 1 * below 0 V s ≡ 0 * V s + 0 * V s
unfolding below
below_none V s = rw (le-ltb s 0 (omega arith)) (omega arith)

below_all : (n : ℕ) (V : ℕ → ℕ) → ((s : ℕ) → n ≤ s → V s ≡ 0) → below n V ≡ V
unfolding below
below_all n V past =
    fun_ext (λ s. elim (cases_lt s n) [ inl l ↦ rw (lt-ltb s n l) refl | inr l ↦ rw (le-ltb s n l) (sym (past s l)) ])

exchange_below : (V : ℕ → ℕ) (y : List ℕ) (os : List (List Move)) (n : ℕ)
    → total n (λ s. V s * flow (weight_to s) y os) ≡ flow (mean (worth (below n V) 0)) y os
exchange_below V y os zero =
    omega (
      arith,
      flow_eq 1 0 0 (mean (worth (below 0 V) 0)) (mean (worth V 0)) (mean (worth V 0))
          (worth_eq 1 0 0 (below 0 V) V V 0 0 0 (below_none V) (omega arith)) y os,
    )
exchange_below V y os (suc n) =
    omega (
      arith,
      total-last n (λ s. V s * flow (weight_to s) y os),
      exchange_below V y os n,
      flow_eq 1 1 (V n) (mean (worth (below (suc n) V) 0)) (mean (worth (below n V) 0)) (weight_to n)
          (worth_eq 1 1 (V n) (below (suc n) V) (below n V) (one_at n) 0 0 0 (below_more n V) (omega arith)) y os,
    )

pub exchange : (V : ℕ → ℕ) (y : List ℕ) (os : List (List Move)) (n : ℕ) → ((s : ℕ) → n ≤ s → V s ≡ 0)
    → total n (λ s. V s * flow (weight_to s) y os) ≡ flow (mean (worth V 0)) y os
exchange V y os n past =
    exchange_below V y os n ∙ ap (λ (U : ℕ → ℕ). flow (mean (worth U 0)) y os) (below_all n V past)

-- what an option is worth at the entries of a vector, t at the target: as a sum over its moves, and over all n states
pub outlook_is : (n t : ℕ) (z : List ℕ) → length z ≤ n → (ms : List Move)
    → t * weight_to_target ms + carried n z ms ≡ mean (worth (value_at z) t) ms
outlook_is n t z long ms =
    omega (
      arith,
      ap (total n) (fun_ext (λ s. one (value_at z s) (weight_to s ms))),
      exchange (value_at z) (1 ∷ []) (ms ∷ []) n (λ s l. get_or_past z s 0 (omega arith)),
      worth_eq 1 1 t (value_at z) (value_at z) (λ _. 0) t 0 1 (λ s. omega arith) (omega arith) ms,
    )
  where
    one : (v w : ℕ) → w * v ≡ v * (1 * w + 0)
    one v w = omega arith
