-- Orders between the worst and the best, and the orders that reach these.
use Rattle.std.proofs.Common.{◌≡◌, ℕ, zero, suc, ◌+◌, ◌-◌, ◌*◌, ◌^◌, ◌<◌, ◌≤◌, List, [], ◌∷◌, length, get_or, sym, refl, ap, ◌∙◌, subst, inl, inr, mul-le-mul_left, pow-suc, mul-one, arith}
use mathlib.Core.Path.{fun_ext}
use native.Mathlib.Nat.{pow-zero}
use Rattle.std.specs.List.{AllByRecursion as Every}
use Rattle.std.proofs.lemmas.List.{get_or_past}
use Rattle.std.proofs.ByRecursion.{All-get_or, All-weaker}
use Rattle.std.proofs.lemmas.Bool.{cases_lt}
use Rattle.process.specs.declared.place.Place.{Place}
use Rattle.process.specs.declared.place.Move.{Move}
use Rattle.process.specs.Process.{Process, Formed, StateFormed, OptionFormed, weights}
use Rattle.process.specs.Queries.{moves_of}
use Rattle.process.specs.Means.{mean, worth}
use Rattle.bounds.specs.Orders.{Play, arrived, Order, played, hits}
use Rattle.bounds.specs.Extremes.{greatest, least, best, worst}
use Rattle.bounds.specs.Vectors.{Options}
use Rattle.bounds.proofs.Means.{worth_under, worth-weights}
use Rattle.bounds.proofs.Extremes.{greatest_above, least_below, greatest-at, least_at, greatest_le, greatest_mono, least_mono}

-- past the states there is no option
pub anywhere : (p : Process) (P : ℕ → List Move → Type 0) → Options p P → (s : ℕ) → Every (P s) (get_or p s [])
anywhere p P each s =
    elim (cases_lt s (length p)) [ inl l ↦ each s l | inr l ↦ rw (get_or_past p s [] l) tt ]

module _ (d : ℕ) (p : Process) (formed : Formed d p) where
  pub formed-whole : Options p (λ s ms. weights ms ≡ d)
  formed-whole s l =
      All-weaker (OptionFormed d (length p)) (λ ms. weights ms ≡ d) (λ ms o. o.sum) (get_or p s [])
      (All-get_or (StateFormed d (length p)) p s [] l formed.each).each

  pub formed-some : (s : ℕ) → s < length p → 1 ≤ length (get_or p s [])
  formed-some s l = (All-get_or (StateFormed d (length p)) p s [] l formed.each).some_option

-- What is played lies, at any values of the places, between G times the least and G times the greatest option.
-- G is 1 for an order, and the sum of the shares for one that throws dice.
pub record Mixes (G : ℕ) (p : Process) (play : Play) : Type 0 where
  pub most : (f : Place → ℕ) (s : ℕ) (h : List ℕ) → mean f (play s h) ≤ G * greatest (mean f) (get_or p s [])
  pub at_least : (f : Place → ℕ) (s : ℕ) (h : List ℕ) → G * least (mean f) (get_or p s []) ≤ mean f (play s h)

pub played_mixes : (p : Process) (c : Order p) → Mixes 1 p (played p c)
played_mixes p c =
    record {
      most =
          λ f s h.
          elim (cases_lt s (length p)) [
            | inl l ↦ omega (arith, greatest_above (mean f) (get_or p s []) (c.picks s h) [] (c.allowed s h l))
            | inr l ↦ rw (get_or_past p s [] l) (omega arith)
          ];
      at_least =
          λ f s h.
          elim (cases_lt s (length p)) [
            | inl l ↦ omega (arith, least_below (mean f) (get_or p s []) (c.picks s h) [] (c.allowed s h l))
            | inr l ↦ rw (get_or_past p s [] l) (omega arith)
          ];
    }

pub pow-mul : (d G N : ℕ) → (d * G) ^ N ≡ d ^ N * G ^ N
pow-mul d G zero = rw (pow-zero (d * G), pow-zero d, pow-zero G) (omega arith)
pow-mul d G (suc N) =
    rw (pow-suc (d * G) N, pow-suc d N, pow-suc G N) (omega (arith, ap (λ (x : ℕ). x * (d * G)) (pow-mul d G N)))

module _ (d G : ℕ) (p : Process) (play : Play) (mixes : Mixes G p play) where
  pub under_best : (N s : ℕ) (h : List ℕ) → arrived (d * G) play N s h ≤ G ^ N * best d p N s
  under_best zero s h = omega arith
  under_best (suc N) s h =
      rw (pow-suc G N)
      (omega (
        arith,
        mul-le-mul_left (G ^ N) (mixes.most (worth (best d p N) (d ^ N)) s h),
        worth_under 1 (G ^ N) (λ s'. arrived (d * G) play N s' (s ∷ h)) (best d p N) ((d * G) ^ N) (d ^ N)
            (λ s'. omega (arith, under_best N s' (s ∷ h))) (omega (arith, pow-mul d G N)) (play s h),
      ))

  pub above_worst : (N s : ℕ) (h : List ℕ) → G ^ N * worst d p N s ≤ arrived (d * G) play N s h
  above_worst zero s h = omega arith
  above_worst (suc N) s h =
      rw (pow-suc G N)
      (omega (
        arith,
        mul-le-mul_left (G ^ N) (mixes.at_least (worth (worst d p N) (d ^ N)) s h),
        worth_under (G ^ N) 1 (worst d p N) (λ s'. arrived (d * G) play N s' (s ∷ h)) (d ^ N) ((d * G) ^ N)
            (λ s'. omega (arith, above_worst N s' (s ∷ h))) (omega (arith, pow-mul d G N)) (play s h),
      ))

module _ (d : ℕ) (p : Process) where
  pub best-rises : (N s : ℕ) → d * best d p N s ≤ best d p (suc N) s
  best-rises zero s = omega arith
  best-rises (suc N) s =
      greatest_mono d (mean (worth (best d p N) (d ^ N))) (mean (worth (best d p (suc N)) (d ^ suc N)))
      (λ ms. omega (
        arith,
        worth_under d 1 (best d p N) (best d p (suc N)) (d ^ N) (d ^ suc N)
            (λ s'. omega (arith, best-rises N s')) (omega (arith, pow-suc d N)) ms,
      ))
      (get_or p s [])

  pub worst-rises : (N s : ℕ) → d * worst d p N s ≤ worst d p (suc N) s
  worst-rises zero s = omega arith
  worst-rises (suc N) s =
      least_mono d (mean (worth (worst d p N) (d ^ N))) (mean (worth (worst d p (suc N)) (d ^ suc N)))
      (λ ms. omega (
        arith,
        worth_under d 1 (worst d p N) (worst d p (suc N)) (d ^ N) (d ^ suc N)
            (λ s'. omega (arith, worst-rises N s')) (omega (arith, pow-suc d N)) ms,
      ))
      (get_or p s [])

  pub best_le : Options p (λ s ms. weights ms ≡ d) → (N s : ℕ) → best d p N s ≤ d ^ N
  best_le whole zero s = omega arith
  best_le whole (suc N) s =
      rw pow-suc
      (omega (
        arith,
        greatest_le (mean (worth (best d p N) (d ^ N))) 1 (d ^ N * d) (get_or p s [])
            (All-weaker (λ ms. weights ms ≡ d) (λ ms. 1 * mean (worth (best d p N) (d ^ N)) ms ≤ d ^ N * d)
            (λ ms w. omega (
              arith,
              ap (λ (x : ℕ). d ^ N * x) w,
              worth-weights (d ^ N) (d ^ N) (best d p N) (best_le whole N) (omega arith) ms,
            ))
            (get_or p s []) (anywhere p (λ s ms. weights ms ≡ d) whole s)),
      ))

-- An order that picks by the moves that are left reaches the values by which it picks.
module _ (d : ℕ) (p : Process) (V pick : ℕ → ℕ → ℕ)
    (inside : (N s : ℕ) → s < length p → pick N s < length (get_or p s []))
    (start : (s : ℕ) → V 0 s ≡ 0)
    (step : (N s : ℕ) → mean (worth (V N) (d ^ N)) (moves_of p s (pick N s)) ≡ V (suc N) s)
  where
    abbrev pub timed : ℕ → Order p
    timed N = record { picks = λ s h. pick (N - suc (length h)) s; allowed = λ s h l. inside (N - suc (length h)) s l }

    pub timed_hits : (N M s : ℕ) (h : List ℕ) → M + length h ≡ N → hits d p (timed N) M s h ≡ V M s
    timed_hits N zero s h e = sym (start s)
    timed_hits N (suc M) s h e =
        let k : N - suc (length h) ≡ M = omega arith in
        ap (λ (g : ℕ → ℕ). mean (worth g (d ^ M)) (moves_of p s (pick (N - suc (length h)) s)))
        (fun_ext (λ s'. timed_hits N M s' (s ∷ h) (omega arith)))
        ∙ (ap (λ (n : ℕ). mean (worth (V M) (d ^ M)) (moves_of p s (pick n s))) k ∙ step M s)

module _ (d : ℕ) (p : Process) (formed : Formed d p) where
  best_pick : (N s : ℕ) → (i : ℕ) × (1 ≤ length (get_or p s []) → i < length (get_or p s [])) × (1 ≤ length (get_or p s []) → mean (worth (best d p N) (d ^ N)) (moves_of p s i) ≡ best d p (suc N) s)
  best_pick N s = greatest-at (mean (worth (best d p N) (d ^ N))) (get_or p s []) []

  worst_pick : (N s : ℕ) → (i : ℕ) × (1 ≤ length (get_or p s []) → i < length (get_or p s [])) × (1 ≤ length (get_or p s []) → mean (worth (worst d p N) (d ^ N)) (moves_of p s i) ≡ worst d p (suc N) s)
  worst_pick N s = least_at (mean (worth (worst d p N) (d ^ N))) (get_or p s []) []

  pub best-reached : (N : ℕ) → (c : Order p) × ((s : ℕ) → hits d p c N s [] ≡ best d p N s)
  best-reached N = (
    timed d p (best d p) (λ N s. (best_pick N s).0) inside (λ s. refl) step N,
    λ s. timed_hits d p (best d p) (λ N s. (best_pick N s).0) inside (λ s. refl) step N N s [] (omega arith),
  )
    where
      inside : (N s : ℕ) → s < length p → (best_pick N s).0 < length (get_or p s [])
      inside N s l = (best_pick N s).1 (formed-some d p formed s l)

      step : (N s : ℕ) → mean (worth (best d p N) (d ^ N)) (moves_of p s (best_pick N s).0) ≡ best d p (suc N) s
      step N s =
          elim (cases_lt s (length p))
          [ inl l ↦ (best_pick N s).2 (formed-some d p formed s l) | inr l ↦ rw (get_or_past p s [] l) refl ]

  pub worst-reached : (N : ℕ) → (c : Order p) × ((s : ℕ) → hits d p c N s [] ≡ worst d p N s)
  worst-reached N = (
    timed d p (worst d p) (λ N s. (worst_pick N s).0) inside (λ s. refl) step N,
    λ s. timed_hits d p (worst d p) (λ N s. (worst_pick N s).0) inside (λ s. refl) step N N s [] (omega arith),
  )
    where
      inside : (N s : ℕ) → s < length p → (worst_pick N s).0 < length (get_or p s [])
      inside N s l = (worst_pick N s).1 (formed-some d p formed s l)

      step : (N s : ℕ) → mean (worth (worst d p N) (d ^ N)) (moves_of p s (worst_pick N s).0) ≡ worst d p (suc N) s
      step N s =
          elim (cases_lt s (length p))
          [ inl l ↦ (worst_pick N s).2 (formed-some d p formed s l) | inr l ↦ rw (get_or_past p s [] l) refl ]

one_pow : (N : ℕ) → 1 ^ N ≡ 1
one_pow zero = refl
one_pow (suc N) = rw (pow-suc 1 N) (omega (arith, one_pow N))

module _ (d : ℕ) (p : Process) (c : Order p) where
  pub hits_under_best : (N s : ℕ) (h : List ℕ) → hits d p c N s h ≤ best d p N s
  hits_under_best N s h =
      let r : hits d p c N s h ≤ 1 ^ N * best d p N s =
      subst (λ (e : ℕ). arrived e (played p c) N s h ≤ 1 ^ N * best d p N s) (mul-one d)
      (under_best d 1 p (played p c) (played_mixes p c) N s h) in
      omega (arith, rw (one_pow N) at r)

  pub hits_above_worst : (N s : ℕ) (h : List ℕ) → worst d p N s ≤ hits d p c N s h
  hits_above_worst N s h =
      let r : 1 ^ N * worst d p N s ≤ hits d p c N s h =
      subst (λ (e : ℕ). 1 ^ N * worst d p N s ≤ arrived e (played p c) N s h) (mul-one d)
      (above_worst d 1 p (played p c) (played_mixes p c) N s h) in
      omega (arith, rw (one_pow N) at r)
