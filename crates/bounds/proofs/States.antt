-- Cap, floor and delay: one entry for each state.
use Rattle.std.proofs.Common.{◌≡◌, ℕ, ◌+◌, ◌*◌, ◌^◌, ◌≤◌, Bool, List, [], ◌∷◌, length, get_or, subst, inl, inr, mul-le-mul_left, mul-one, arith}
use Rattle.std.specs.List.{AllByRecursion as Every}
use Rattle.std.proofs.lemmas.List.{get_or_past}
use Rattle.std.proofs.ByRecursion.{All-get_or, All-weaker}
use Rattle.std.proofs.lemmas.Bool.{cases_lt}
use Rattle.process.specs.declared.place.Place.{Place}
use Rattle.process.specs.declared.place.End.{End}
use Rattle.process.specs.declared.place.Move.{Move}
use Rattle.process.specs.Process.{Process, Formed, weights}
use Rattle.process.specs.Means.{mean, is_target, paid, valued, worth}
use Rattle.bounds.specs.Orders.{Play, arrived_to, arrived, played}
use Rattle.bounds.specs.Vectors.{value_at, weight_to_target, carried, Options, CapAt, FloorAt, DelayAt, Caps, Floors, Delays}
use Rattle.bounds.specs.Holds.{CapHolds, FloorHolds}
use Rattle.bounds.proofs.Means.{mean_eq, mean_all}
use Rattle.bounds.proofs.Sums.{outlook_is}
use Rattle.bounds.proofs.Plays.{arrived-cap, arrived-floor}
use Rattle.bounds.proofs.Extremes.{greatest_le, least_ge}
use Rattle.bounds.proofs.Orders.{anywhere, formed-whole, formed-some, Mixes, played_mixes}

pub value_at_le : (Q : ℕ) (z : List ℕ) → Every (λ x. x ≤ Q) z → (s : ℕ) → value_at z s ≤ Q
value_at_le Q z limit s =
    elim (cases_lt s (length z))
    [ inl l ↦ All-get_or (λ x. x ≤ Q) z s 0 l limit | inr l ↦ rw (get_or_past z s 0 l) (omega arith) ]

-- the inequalities with the sums taken over the moves of an option
abbrev pub CapsTo : (End → Bool) → (Q d : ℕ) (p : Process) → List ℕ → Type 0
CapsTo goal Q d p z = Options p (λ s ms. mean (valued (value_at z) (paid goal Q)) ms ≤ d * value_at z s)

abbrev pub FloorsBy : (Q d : ℕ) (p : Process) → List ℕ → Type 0
FloorsBy Q d p z = Options p (λ s ms. d * value_at z s ≤ mean (worth (value_at z) Q) ms)

abbrev pub DelaysBy : (d : ℕ) (p : Process) → List ℕ → Type 0
DelaysBy d p v = Options p (λ s ms. d + mean (worth (value_at v) 0) ms ≤ d * value_at v s)

pub options_weaker : (p : Process) (P R : ℕ → List Move → Type 0) → ((s : ℕ) (ms : List Move) → P s ms → R s ms)
    → Options p P → Options p R
options_weaker p P R weaker each s l = All-weaker (P s) (R s) (weaker s) (get_or p s []) (each s l)

module _ (Q d : ℕ) (p : Process) (z : List ℕ) (size : length z ≡ length p) where
  sums : (t : ℕ) (ms : List Move) → t * weight_to_target ms + carried (length p) z ms ≡ mean (worth (value_at z) t) ms
  sums t ms = outlook_is (length p) t z (omega arith) ms

  pub caps_by : Caps Q d p z → CapsTo is_target Q d p z
  caps_by =
      options_weaker p (CapAt Q d (length p) z) (λ s ms. mean (worth (value_at z) Q) ms ≤ d * value_at z s)
      (λ s ms h. omega (arith, sums Q ms))

  pub floors_by : Floors Q d p z → FloorsBy Q d p z
  floors_by =
      options_weaker p (FloorAt Q d (length p) z) (λ s ms. d * value_at z s ≤ mean (worth (value_at z) Q) ms)
      (λ s ms h. omega (arith, sums Q ms))

  pub by_floors : FloorsBy Q d p z → Floors Q d p z
  by_floors =
      options_weaker p (λ s ms. d * value_at z s ≤ mean (worth (value_at z) Q) ms) (FloorAt Q d (length p) z)
      (λ s ms h. omega (arith, sums Q ms))

  pub delays_by : Delays d p z → DelaysBy d p z
  delays_by =
      options_weaker p (DelayAt d (length p) z) (λ s ms. d + mean (worth (value_at z) 0) ms ≤ d * value_at z s)
      (λ s ms h. omega (arith, sums 0 ms))

  pub by_delays : DelaysBy d p z → Delays d p z
  by_delays =
      options_weaker p (λ s ms. d + mean (worth (value_at z) 0) ms ≤ d * value_at z s) (DelayAt d (length p) z)
      (λ s ms h. omega (arith, sums 0 ms))

-- a mean of one more everywhere
pub one_more : (v : ℕ → ℕ) (ms : List Move) → mean (λ q. 1 + worth v 0 q) ms ≡ weights ms + mean (worth v 0) ms
one_more v ms =
    omega (arith, mean_all 1 ms, mean_eq 1 1 1 (λ q. 1 + worth v 0 q) (λ _. 1) (worth v 0) (λ q. omega arith) ms)

module _ (d G : ℕ) (p : Process) (play : Play) (mixes : Mixes G p play) where
  -- what each option of a state is under, what is played there is under, G times
  pub under : (f : Place → ℕ) (b s : ℕ) (h : List ℕ) → Every (λ ms. mean f ms ≤ b) (get_or p s []) → mean f (play s h) ≤ G * b
  under f b s h each =
      omega (
        arith,
        mixes.most f s h,
        mul-le-mul_left G (greatest_le (mean f) 1 b (get_or p s [])
            (All-weaker (λ ms. mean f ms ≤ b) (λ ms. 1 * mean f ms ≤ b) (λ ms l. omega arith) (get_or p s []) each)),
      )

  pub cap_any : (goal : End → Bool) (Q : ℕ) (z : List ℕ) → CapsTo goal Q d p z
      → (N s : ℕ) (h : List ℕ) → Q * arrived_to goal (d * G) play N s h ≤ value_at z s * (d * G) ^ N
  cap_any goal Q z caps =
      arrived-cap (d * G) play goal Q (value_at z)
      (λ s h.
      omega (
        arith,
        under (valued (value_at z) (paid goal Q)) (d * value_at z s) s h
            (anywhere p (λ s ms. mean (valued (value_at z) (paid goal Q)) ms ≤ d * value_at z s) caps s),
      ))

  module _ (formed : Formed d p) where
    pub whole_any : (s : ℕ) (h : List ℕ) → weights (play s h) ≤ d * G
    whole_any s h =
        omega (
          arith,
          mean_all 1 (play s h),
          under (λ _. 1) d s h
              (All-weaker (λ ms. weights ms ≡ d) (λ ms. mean (λ _. 1) ms ≤ d) (λ ms w. omega (arith, mean_all 1 ms))
              (get_or p s []) (anywhere p (λ s ms. weights ms ≡ d) (formed-whole d p formed) s)),
        )

    pub rises_any : (Q : ℕ) (z : List ℕ) → length z ≡ length p → FloorsBy Q d p z
        → (s : ℕ) (h : List ℕ) → d * G * value_at z s ≤ mean (worth (value_at z) Q) (play s h)
    rises_any Q z size floors s h =
        elim (cases_lt s (length p)) [
          | inl l ↦
              omega (
                arith,
                mixes.at_least (worth (value_at z) Q) s h,
                mul-le-mul_left G (least_ge (mean (worth (value_at z) Q)) (d * value_at z s) (get_or p s [])
                    (formed-some d p formed s l) (floors s l)),
              )
          | inr l ↦ rw (get_or_past z s 0 (omega arith)) (omega arith)
        ]

    pub falls_any : (v : ℕ → ℕ) (b s : ℕ) (h : List ℕ) → Every (λ ms. d + mean (worth v 0) ms ≤ b) (get_or p s [])
        → weights (play s h) + mean (worth v 0) (play s h) ≤ G * b
    falls_any v b s h each =
        omega (
          arith,
          one_more v (play s h),
          under (λ q. 1 + worth v 0 q) b s h
              (paired (get_or p s []) (anywhere p (λ s ms. weights ms ≡ d) (formed-whole d p formed) s) each),
        )
      where
        paired : (os : List (List Move)) → Every (λ ms. weights ms ≡ d) os → Every (λ ms. d + mean (worth v 0) ms ≤ b) os
            → Every (λ ms. mean (λ q. 1 + worth v 0 q) ms ≤ b) os
        paired [] w f = tt
        paired (ms ∷ os) w f = (omega (arith, one_more v ms, w.0, f.0), paired os w.1 f.1)

    pub floor_any : (Q : ℕ) (z v : List ℕ) → length z ≡ length p → Every (λ x. x ≤ Q) z → FloorsBy Q d p z → DelaysBy d p v
        → (N s : ℕ) (h : List ℕ)
        → N * value_at z s * (d * G) ^ N ≤ N * Q * arrived (d * G) play N s h + Q * value_at v s * (d * G) ^ N
    floor_any Q z v size limit floors delays =
        arrived-floor (d * G) play whole_any Q (value_at z) (value_at v) (value_at_le Q z limit)
        (rises_any Q z size floors)
        (λ s h.
        omega (
          arith,
          falls_any (value_at v) (d * value_at v s) s h
              (anywhere p (λ s ms. d + mean (worth (value_at v) 0) ms ≤ d * value_at v s) delays s),
        ))

-- at an order
pub cap_holds : (Q d : ℕ) (p : Process) (z : List ℕ) → length z ≡ length p → Caps Q d p z → CapHolds Q d p (value_at z 0)
cap_holds Q d p z size caps c N =
    subst (λ (e : ℕ). Q * arrived e (played p c) N 0 [] ≤ value_at z 0 * e ^ N) (mul-one d)
    (cap_any d 1 p (played p c) (played_mixes p c) is_target Q z (caps_by Q d p z size caps) N 0 [])

pub floor_holds : (Q d : ℕ) (p : Process) → Formed d p → (z v : List ℕ) → length z ≡ length p → length v ≡ length p
    → Every (λ x. x ≤ Q) z → Floors Q d p z → Delays d p v → FloorHolds Q d p (value_at z 0) (value_at v 0)
floor_holds Q d p formed z v size size' limit floors delays c N =
    subst
    (λ (e : ℕ). N * value_at z 0 * e ^ N ≤ N * Q * arrived e (played p c) N 0 [] + Q * value_at v 0 * e ^ N)
    (mul-one d)
    (floor_any d 1 p (played p c) (played_mixes p c) formed Q z v size limit (floors_by Q d p z size floors)
    (delays_by Q d p v size' delays) N 0 [])
