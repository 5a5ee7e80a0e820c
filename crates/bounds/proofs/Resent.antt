-- What moves that are sent elsewhere leave of sums: those at values that do not change.
use Rattle.std.proofs.Common.{◌≡◌, ℕ, zero, suc, ◌+◌, ◌*◌, ◌<◌, List, [], ◌∷◌, map, length, get_or, take, drop, sum, sym, refl, ap, ◌∙◌, arith}
use mathlib.Core.Path.{fun_ext}
use Rattle.std.proofs.lemmas.List.{length-map}
use Rattle.std.proofs.ByRecursion.{All-map}
use Rattle.std.proofs.lemmas.List.Sums.{sum_by-cons}
use Rattle.process.specs.declared.place.Place.{Place}
use Rattle.process.specs.declared.place.Move.{Move}
use Rattle.process.specs.Process.{Process, joined}
use Rattle.process.specs.Parts.{sent, resent}
use Rattle.process.specs.Means.{mean}
use Rattle.process.proofs.Parts.{resent-length, resent-at, resent-first}
use Rattle.bounds.specs.Vectors.{Options, flow, own}
use Rattle.bounds.proofs.Sums.{flow-append, own-after}

-- one option
module _ (g : Place → Place) where
  pub sent-mean : (f : Place → ℕ) (ms : List Move) → mean f (map (sent g) ms) ≡ mean (λ q. f (g q)) ms
  sent-mean f [] = refl
  sent-mean f (m ∷ ms) = ap (λ (x : ℕ). m.weight * f (g m.place) + x) (sent-mean f ms)

  pub sent-mean_same : (f : Place → ℕ) → ((q : Place) → f (g q) ≡ f q) → (ms : List Move) → mean f (map (sent g) ms) ≡ mean f ms
  sent-mean_same f same ms = sent-mean f ms ∙ ap (λ (h : Place → ℕ). mean h ms) (fun_ext same)

pub resent-own : (g : ℕ → Place → Place) (p : Process) (y : List ℕ) (s : ℕ) → own (resent g p) y s ≡ own p y s
resent-own g p y s = rw (resent-first g p s, resent-at g p s, length-map (get_or p s []) (map (sent (g s)))) refl

pub resent_options : (g : ℕ → Place → Place) (p : Process) (P : ℕ → List Move → Type 0)
    → Options p (λ s ms. P s (map (sent (g s)) ms)) → Options (resent g p) P
resent_options g p P each s l =
    rw (resent-at g p s)
    (All-map (P s) (map (sent (g s))) (get_or p s []) (each s (rw (resent-length g p) at l)))

-- flows
flow-map : (f : List Move → ℕ) (F : List Move → List Move) (y : List ℕ) (os : List (List Move))
    → flow f y (map F os) ≡ flow (λ ms. f (F ms)) y os
flow-map f F [] os = refl
flow-map f F (y ∷ ys) [] = refl
flow-map f F (y ∷ ys) (ms ∷ os) = ap (λ (x : ℕ). y * f (F ms) + x) (flow-map f F ys os)

flow_nothing : (f : List Move → ℕ) (y : List ℕ) (os : List (List Move)) → sum y ≡ 0 → flow f y os ≡ 0
flow_nothing f [] os e = refl
flow_nothing f (y ∷ ys) [] e = refl
flow_nothing f (y ∷ ys) (ms ∷ os) e =
    let s : y + sum ys ≡ 0 = sym (sum_by-cons (λ x. x) y ys) ∙ e in
    let none : y ≡ 0 = omega arith in
    rw none (omega (arith, flow_nothing f ys os (omega arith)))

-- at values that do not change where y is above 0
pub resent-flow : (f : Place → ℕ) (g : ℕ → Place → Place) (p : Process) (y : List ℕ)
    → ((s : ℕ) → 0 < own p y s → (q : Place) → f (g s q) ≡ f q)
    → flow (mean f) y (joined (resent g p)) ≡ flow (mean f) y (joined p)
resent-flow f g [] y same = refl
resent-flow f g (os ∷ p) y same =
    rw (
      flow-append (mean f) y (map (map (sent (g 0))) os) (joined (resent (λ s. g (suc s)) p)),
      flow-append (mean f) y os (joined p),
      length-map os (map (sent (g 0))),
    )
    (omega (
      arith,
      flow-map (mean f) (map (sent (g 0))) (take (length os) y) os,
      here (sum (take (length os) y)) refl,
      resent-flow f (λ s. g (suc s)) p (drop (length os) y) (λ s l. same (suc s) (rw (own-after os p y s) l)),
    ))
  where
    here : (x : ℕ) → sum (take (length os) y) ≡ x
        → flow (λ ms. mean f (map (sent (g 0)) ms)) (take (length os) y) os ≡ flow (mean f) (take (length os) y) os
    here zero e =
        flow_nothing (λ ms. mean f (map (sent (g 0)) ms)) (take (length os) y) os e
        ∙ sym (flow_nothing (mean f) (take (length os) y) os e)
    here (suc x) e =
        ap (λ (k : List Move → ℕ). flow k (take (length os) y) os)
        (fun_ext (sent-mean_same (g 0) f (same 0 (omega arith))))
