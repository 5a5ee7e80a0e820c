-- What a kept part keeps: the vectors whose positive entries it holds.
use Rattle.std.proofs.Common.{◌≡◌, ℕ, ◌+◌, ◌*◌, ◌<◌, ◌≤◌, Bool, true, false, eqb, List, [], map, length, get_or, sym, refl, ◌∙◌, inl, inr, eq-zero-or-pos, arith}
use Rattle.std.proofs.ByRecursion.{All-weaker}
use Rattle.std.proofs.lemmas.Bool.{cases_Bool, ne_eqb, both_ways, cond-false}
use Rattle.process.specs.declared.place.Place.{Place}
use Rattle.process.specs.declared.place.Place.TheVariants.{State, End as Ends}
use Rattle.process.specs.Process.{Process}
use Rattle.process.specs.Parts.{sent, gone, kept_place, kept_move, part_of}
use Rattle.process.specs.Means.{mean, worth}
use Rattle.process.proofs.Parts.{part_states}
use Rattle.bounds.specs.Vectors.{value_at, Floors, Delays, one_at, inflow, own, gain, Hopes}
use Rattle.bounds.proofs.Means.{mean_le}
use Rattle.bounds.proofs.States.{floors_by, by_floors, delays_by, by_delays}
use Rattle.bounds.proofs.Resent.{sent-mean, sent-mean_same, resent-own, resent_options, resent-flow}

-- what is positive only where states are kept is 0 elsewhere
outside : (kept : ℕ → Bool) (f : ℕ → ℕ) → ((s : ℕ) → 0 < f s → kept s ≡ true) → (s : ℕ) → kept s ≡ false → f s ≡ 0
outside kept f marks s k = elim (eq-zero-or-pos (f s)) [ inl e ↦ e | inr l ↦ absurd (both_ways (kept s) k (marks s l)) ]

module _ (kept : ℕ → Bool) where
  -- at values that are those of a cut move where nothing is kept, a kept state's moves are worth what they were
  kept_same : (f : Place → ℕ) → ((s : ℕ) → kept s ≡ false → f (State s) ≡ f gone)
      → (s : ℕ) → kept s ≡ true → (q : Place) → f (kept_move kept s q) ≡ f q
  kept_same f none s k q = rw k (same q)
    where
      same : (q : Place) → f (kept_place kept q) ≡ f q
      same (State s) = elim (cases_Bool (kept s)) [ inl h ↦ rw h refl | inr h ↦ rw h (sym (none s h)) ]
      same (Ends q) = refl

  -- where a cut move is worth 0, no move is worth more than it was
  kept_less : (f : Place → ℕ) → f gone ≡ 0 → (s : ℕ) (q : Place) → f (kept_move kept s q) ≤ f q
  kept_less f none s q = elim (cases_Bool (kept s)) [ inl k ↦ rw k (less q) | inr k ↦ rw k (omega (arith, none)) ]
    where
      less : (q : Place) → f (kept_place kept q) ≤ f q
      less (State s) = elim (cases_Bool (kept s)) [ inl h ↦ rw h (omega arith) | inr h ↦ rw h (omega (arith, none)) ]
      less (Ends q) = omega arith

module _ (Q d : ℕ) (p : Process) (kept : ℕ → Bool) (z : List ℕ) (size : length z ≡ length p) where
  part_size : length z ≡ length (part_of kept p)
  part_size = size ∙ sym (part_states kept p)

  pub part_floor : ((s : ℕ) → 0 < value_at z s → kept s ≡ true) → Floors Q d p z → Floors Q d (part_of kept p) z
  part_floor marks floors =
      by_floors Q d (part_of kept p) z part_size
      (resent_options (kept_move kept) p (λ s ms. d * value_at z s ≤ mean (worth (value_at z) Q) ms)
      (λ s l.
      All-weaker (λ ms. d * value_at z s ≤ mean (worth (value_at z) Q) ms)
      (λ ms. d * value_at z s ≤ mean (worth (value_at z) Q) (map (sent (kept_move kept s)) ms))
      (λ ms le.
      elim (cases_Bool (kept s)) [
        | inl k ↦
            omega (
              arith,
              sent-mean_same (kept_move kept s) (worth (value_at z) Q)
                  (kept_same kept (worth (value_at z) Q) (outside kept (value_at z) marks) s k) ms,
            )
        | inr k ↦ rw (outside kept (value_at z) marks s k) (omega arith)
      ])
      (get_or p s []) (floors_by Q d p z size floors s l)))

  pub part_delay : Delays d p z → Delays d (part_of kept p) z
  part_delay delays =
      by_delays Q d (part_of kept p) z part_size
      (resent_options (kept_move kept) p (λ s ms. d + mean (worth (value_at z) 0) ms ≤ d * value_at z s)
      (λ s l.
      All-weaker (λ ms. d + mean (worth (value_at z) 0) ms ≤ d * value_at z s)
      (λ ms. d + mean (worth (value_at z) 0) (map (sent (kept_move kept s)) ms) ≤ d * value_at z s)
      (λ ms le. omega (
        arith,
        sent-mean (kept_move kept s) (worth (value_at z) 0) ms,
        mean_le 1 1 0 (λ q. worth (value_at z) 0 (kept_move kept s q)) (worth (value_at z) 0) (λ _. 0)
            (λ q. omega (arith, kept_less kept (worth (value_at z) 0) refl s q)) ms,
      ))
      (get_or p s []) (delays_by Q d p z size delays s l)))

module _ (Q d : ℕ) (p : Process) (kept : ℕ → Bool) (y : List ℕ) (marks : (s : ℕ) → 0 < own p y s → kept s ≡ true) where
  pub part_own : (s : ℕ) → own (part_of kept p) y s ≡ own p y s
  part_own s = resent-own (kept_move kept) p y s

  pub part_gain : gain (part_of kept p) y ≡ gain p y
  part_gain =
      resent-flow (worth (λ _. 0) 1) (kept_move kept) p y
      (λ s l. kept_same kept (worth (λ _. 0) 1) (λ s k. refl) s (marks s l))

  part_inflow : (s : ℕ) → kept s ≡ true → inflow (part_of kept p) y s ≡ inflow p y s
  part_inflow s k =
      resent-flow (worth (one_at s) 0) (kept_move kept) p y
      (λ t l. kept_same kept (worth (one_at s) 0)
      (λ u n. cond-false (eqb u s) 1 0 (ne_eqb u s (λ e. both_ways (kept s) (rw e at n) k))) t (marks t l))

  pub part_hope : Hopes Q d p y → Hopes Q d (part_of kept p) y
  part_hope hopes s l =
      rw (part_own s)
      (elim (cases_Bool (kept s)) [
        | inl k ↦ rw (part_inflow s k) (hopes s (rw (part_states kept p) at l))
        | inr k ↦ rw (outside kept (own p y) marks s k) (omega arith)
      ])
