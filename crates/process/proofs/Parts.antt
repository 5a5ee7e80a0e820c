-- What stays when moves are sent elsewhere: the shape, the sums of weights and the form; and so of a kept part.
use Rattle.std.proofs.Common.{◌≡◌, ℕ, zero, suc, ◌+◌, Bool, List, [], ◌∷◌, map, length, get_or, take, refl, ap, ◌∙◌, inl, inr, arith, length-append}
use Rattle.std.specs.Option.{option_map}
use Rattle.std.specs.List.{AllByRecursion as Every, slice_get}
use Rattle.std.proofs.ByRecursion.{All-map, All-weaker}
use Rattle.std.proofs.lemmas.List.{length-map}
use Rattle.std.proofs.lemmas.Bool.{cases_Bool}
use Rattle.process.specs.declared.place.Place.{Place}
use Rattle.process.specs.declared.place.Place.TheVariants.{State, End as Ends}
use Rattle.process.specs.declared.place.Move.{Move}
use Rattle.process.specs.Process.{Process, joined, weights, Within, OptionFormed, StateFormed, Formed}
use Rattle.process.specs.Queries.{options_at, moves_at, move_at}
use Rattle.process.specs.Parts.{sent, resent, kept_place, kept_move, part_of}
use Rattle.process.proofs.Joined.{length-joined-append}

-- one option
module _ (g : Place → Place) where
  sent-weights : (ms : List Move) → weights (map (sent g) ms) ≡ weights ms
  sent-weights [] = refl
  sent-weights (m ∷ ms) = ap (λ (x : ℕ). m.weight + x) (sent-weights ms)

  sent-count : (os : List (List Move)) → length (joined (map (map (sent g)) os)) ≡ length (joined os)
  sent-count [] = refl
  sent-count (ms ∷ os) =
      omega (
        arith,
        length-append (map (sent g) ms) (joined (map (map (sent g)) os)),
        length-append ms (joined os),
        length-map ms (sent g),
        sent-count os,
      )

  pub sent-option-at : (os : List (List Move)) (o : ℕ) → get_or (map (map (sent g)) os) o [] ≡ map (sent g) (get_or os o [])
  sent-option-at [] o = refl
  sent-option-at (ms ∷ os) zero = refl
  sent-option-at (ms ∷ os) (suc o) = sent-option-at os o

  pub sent-move_at : (ms : List Move) (i : ℕ) → slice_get (map (sent g) ms) i ≡ option_map (sent g) (slice_get ms i)
  sent-move_at [] i = refl
  sent-move_at (m ∷ ms) zero = refl
  sent-move_at (m ∷ ms) (suc i) = sent-move_at ms i

  module _ (d n n' : ℕ) (inside : (q : Place) → Within n q → Within n' (g q)) where
    sent-option : (ms : List Move) → OptionFormed d n ms → OptionFormed d n' (map (sent g) ms)
    sent-option ms f =
        record {
          some_move = rw (length-map ms (sent g)) f.some_move;
          sum = sent-weights ms ∙ f.sum;
          places =
              All-map (λ m. Within n' m.place) (sent g) ms
              (All-weaker (λ m. Within n m.place) (λ m. Within n' (g m.place)) (λ m. inside m.place) ms f.places);
        }

    pub sent-state : (os : List (List Move)) → StateFormed d n os → StateFormed d n' (map (map (sent g)) os)
    sent-state os f =
        record {
          some_option = rw (length-map os (map (sent g))) f.some_option;
          each =
              All-map (OptionFormed d n') (map (sent g)) os
              (All-weaker (OptionFormed d n) (λ ms. OptionFormed d n' (map (sent g) ms)) sent-option os f.each);
        }

-- the whole process
pub resent-length : (g : ℕ → Place → Place) (p : Process) → length (resent g p) ≡ length p
resent-length g [] = refl
resent-length g (os ∷ p) = ap suc (resent-length (λ s. g (suc s)) p)

pub resent-at : (g : ℕ → Place → Place) (p : Process) (s : ℕ) → get_or (resent g p) s [] ≡ map (map (sent (g s))) (get_or p s [])
resent-at g [] zero = refl
resent-at g [] (suc s) = refl
resent-at g (os ∷ p) zero = refl
resent-at g (os ∷ p) (suc s) = resent-at (λ s. g (suc s)) p s

pub resent-first : (g : ℕ → Place → Place) (p : Process) (s : ℕ)
    → length (joined (take s (resent g p))) ≡ length (joined (take s p))
resent-first g p zero = refl
resent-first g [] (suc s) = refl
resent-first g (os ∷ p) (suc s) =
    omega (
      arith,
      length-append (map (map (sent (g 0))) os) (joined (take s (resent (λ s. g (suc s)) p))),
      length-append os (joined (take s p)),
      length-map os (map (sent (g 0))),
      resent-first (λ s. g (suc s)) p s,
    )

pub resent-joined : (g : ℕ → Place → Place) (p : Process) → length (joined (resent g p)) ≡ length (joined p)
resent-joined g [] = refl
resent-joined g (os ∷ p) =
    omega (
      arith,
      length-append (map (map (sent (g 0))) os) (joined (resent (λ s. g (suc s)) p)),
      length-append os (joined p),
      length-map os (map (sent (g 0))),
      resent-joined (λ s. g (suc s)) p,
    )

resent-moves : (g : ℕ → Place → Place) (p : Process) → length (joined (joined (resent g p))) ≡ length (joined (joined p))
resent-moves g [] = refl
resent-moves g (os ∷ p) =
    omega (
      arith,
      length-joined-append (map (map (sent (g 0))) os) (joined (resent (λ s. g (suc s)) p)),
      length-joined-append os (joined p),
      sent-count (g 0) os,
      resent-moves (λ s. g (suc s)) p,
    )

-- the form
resent-each : (g : ℕ → Place → Place) (d n : ℕ) → ((s : ℕ) (q : Place) → Within n q → Within n (g s q))
    → (p : Process) → Every (StateFormed d n) p → Every (StateFormed d n) (resent g p)
resent-each g d n inside [] f = tt
resent-each g d n inside (os ∷ p) f =
    (sent-state (g 0) d n n (inside 0) os f.0, resent-each (λ s. g (suc s)) d n (λ s. inside (suc s)) p f.1)

pub resent-formed : (d : ℕ) (p : Process) (g : ℕ → Place → Place)
    → ((s : ℕ) (q : Place) → Within (length p) q → Within (length p) (g s q)) → Formed d p → Formed d (resent g p)
resent-formed d p g inside f =
    record {
      scale_positive = f.scale_positive;
      scale_limit = f.scale_limit;
      some_state = rw (resent-length g p) f.some_state;
      state_limit = rw (resent-length g p) f.state_limit;
      option_limit = rw (resent-joined g p) f.option_limit;
      move_limit = rw (resent-moves g p) f.move_limit;
      each = rw (resent-length g p) (resent-each g d (length p) inside p f.each);
    }

-- kept parts
module _ (kept : ℕ → Bool) where
  pub kept-within : (n s : ℕ) (q : Place) → Within n q → Within n (kept_move kept s q)
  kept-within n s q w = elim (cases_Bool (kept s)) [ inl k ↦ rw k (stays q w) | inr k ↦ rw k tt ]
    where
      stays : (q : Place) → Within n q → Within n (kept_place kept q)
      stays (State t) w = elim (cases_Bool (kept t)) [ inl h ↦ rw h w | inr h ↦ rw h tt ]
      stays (Ends q) w = tt

  pub part_formed : (d : ℕ) (p : Process) → Formed d p → Formed d (part_of kept p)
  part_formed d p f = resent-formed d p (kept_move kept) (kept-within (length p)) f

  module _ (p : Process) where
    pub part_states : length (part_of kept p) ≡ length p
    part_states = resent-length (kept_move kept) p

    pub part_options : (s : ℕ) → options_at (part_of kept p) s ≡ options_at p s
    part_options s =
        let a = resent-length (kept_move kept) p in
        let b = resent-first (kept_move kept) p s in
        let e : length (get_or (part_of kept p) s []) ≡ length (get_or p s []) =
        ap length (resent-at (kept_move kept) p s) ∙ length-map (get_or p s []) (map (sent (kept_move kept s))) in
        cc

    pub part_moves : (s o : ℕ) → moves_at (part_of kept p) s o ≡ moves_at p s o
    part_moves s o =
        rw (resent-at (kept_move kept) p s, sent-option-at (kept_move kept s) (get_or p s []) o, length-map, length-map)

    pub part_move : (s o i : ℕ) → move_at (part_of kept p) s o i ≡ option_map (sent (kept_move kept s)) (move_at p s o i)
    part_move s o i =
        rw (resent-at (kept_move kept) p s, sent-option-at (kept_move kept s) (get_or p s []) o)
        (sent-move_at (kept_move kept s) (get_or (get_or p s []) o []) i)
