-- The controller's turn: what is picked of the first options of a state.
use Rattle.std.proofs.Common.{◌≡◌, ℕ, suc, ◌+◌, ◌^◌, ◌<◌, ◌≤◌, List, [], ◌∷◌, ◌++◌, length, get_or, take, sym, refl, ap, ◌∙◌, arith}
use Rattle.std.proofs.lemmas.List.{take_more, take_all, length-take-le}
use Rattle.process.specs.declared.place.Place.{Place}
use Rattle.process.specs.declared.place.Move.{Move}
use Rattle.process.specs.Process.{Process}
use Rattle.process.specs.Queries.{moves_of}
use Rattle.process.specs.Means.{mean, worth}
use Rattle.lookahead.specs.declared.turns.Side.{Side}
use Rattle.lookahead.specs.declared.turns.Side.TheVariants.{Greatest, Least}
use Rattle.lookahead.specs.Sides.{kept, picked, outlook, mean_outlook}

picked_push : {A : Type 0} (side : Side) (f : A → ℕ) (xs : List A) (x : A) → 1 ≤ length xs
    → kept side (picked side f xs) (f x) ≡ picked side f (xs ++ x ∷ [])
picked_push side f [] x h = absurd (omega arith)
picked_push Greatest f (y ∷ []) x h = omega arith
picked_push Least f (y ∷ []) x h = refl
picked_push Greatest f (y ∷ z ∷ xs) x h = omega (arith, picked_push Greatest f (z ∷ xs) x (omega arith))
picked_push Least f (y ∷ z ∷ xs) x h = omega (arith, picked_push Least f (z ∷ xs) x (omega arith))

picked_head : (side : Side) (f : Place → ℕ) (os : List (List Move))
    → mean f (get_or os 0 []) ≡ picked side (mean f) (take 1 os)
picked_head Greatest f [] = refl
picked_head Greatest f (ms ∷ os) = omega arith
picked_head Least f [] = refl
picked_head Least f (ms ∷ os) = refl

outlook_suc : (side : Side) (d : ℕ) (p : Process) (k s : ℕ)
    → picked side (mean_outlook side d p k) (get_or p s []) ≡ outlook side d p (suc k) s
outlook_suc Greatest d p k s = refl
outlook_suc Least d p k s = refl

module _ (side : Side) (d : ℕ) (p : Process) (k s : ℕ) where
  -- r is what is picked of the first i options of state s, with k moves left after the one that is made
  abbrev pub Picked : (i r : ℕ) → Type 0
  Picked i r = r ≡ picked side (mean_outlook side d p k) (take i (get_or p s []))

  -- the first option; where it is missing it has no moves
  pub picked_first : (r : ℕ) → r ≡ mean_outlook side d p k (moves_of p s 0) → Picked 1 r
  picked_first r e = e ∙ picked_head side (worth (outlook side d p k) (d ^ k)) (get_or p s [])

  pub picked_more : (i best next r : ℕ) → 1 ≤ i → i < length (get_or p s []) → Picked i best
      → next ≡ mean_outlook side d p k (moves_of p s i) → r ≡ kept side best next → Picked (i + 1) r
  picked_more i best next r h l b n e =
      let os = get_or p s [] in
      let more = take_more os i [] l in
      let some : 1 ≤ length (take i os) = omega (arith, length-take-le i os (omega arith)) in
      let push = picked_push side (mean_outlook side d p k) (take i os) (get_or os i []) some in
      cc

  pub picked_all : (i r n : ℕ) → n ≡ suc k → length (get_or p s []) ≤ i → Picked i r → r ≡ outlook side d p n s
  picked_all i r n e l h =
      h
      ∙ (ap (picked side (mean_outlook side d p k)) (take_all i (get_or p s []) l)
      ∙ (outlook_suc side d p k s ∙ ap (λ (m : ℕ). outlook side d p m s) (sym e)))
