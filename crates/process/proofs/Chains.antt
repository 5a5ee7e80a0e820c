-- A chain over the numbers below n, the length of a list, that adds up f of the elements there.
use Rattle.std.proofs.Common.{◌≡◌, ℕ, ◌+◌, ◌<◌, ◌^◌, List, length, map, get_or, fold, sum_by, ◌∙◌, arith}
use Rattle.std.specs.Bool.{⊤}
use Rattle.std.specs.Fn.{Called}
use Rattle.std.specs.List.{range_with_len}
use Rattle.std.specs.Iterator.{Drains}
use Rattle.std.specs.Iterator.Adapters.{map_source, map_callee}
use Rattle.std.specs.Iterator.Runs.{EachRunFrom}
use Rattle.std.specs.declared.iter.Map.{Map}
use Rattle.std.specs.declared.ops.Range.{Range}
use Rattle.std.proofs.iter.Yields.{nat_range_steps}
use Rattle.std.proofs.lemmas.Iterator.{YieldsList, YieldsList-from_range, YieldsList-from_map, maps}
use Rattle.std.proofs.lemmas.Iterator.Consumers.{sum_from_yields_List, fits_from_yields_list}
use Rattle.process.proofs.Joined.{sum_places}
use denote.Param.Members.{Mut}

module _ {A F : Type 0} {g : Mut F (ℕ × Unit {0}) ℕ} {s : Map (Range ℕ) F} {k : F} (f : A → ℕ) (xs : List A) (d : A) (n : ℕ)
    (all : n ≡ length xs) where
  chain : map_source s ≡ record { start = 0; end = n } → map_callee s ≡ k
      → ((x r : ℕ) (q : F) → Called g k (x, tt) r q → (q ≡ k) × (r ≡ f (get_or xs x d)))
      → YieldsList (maps nat_range_steps g) (λ r. r) s (map (λ i. f (get_or xs i d)) (range_with_len 0 n))
  chain source callee acts =
      YieldsList-from_map g (λ i. f (get_or xs i d)) (YieldsList-from_range 0 n n source (omega arith)) callee acts

  pub chain_fits : sum_by f xs < 2 ^ 64 → map_source s ≡ record { start = 0; end = n } → map_callee s ≡ k
      → ((x r : ℕ) (q : F) → Called g k (x, tt) r q → (q ≡ k) × (r ≡ f (get_or xs x d)))
      → EachRunFrom (maps nat_range_steps g) s (λ p. fold (λ a x. a + x) 0 p.items < 2 ^ 64)
  chain_fits h source callee acts =
      fits_from_yields_list s (2 ^ 64) (chain source callee acts) (omega (arith, sum_places f xs d n all))

  pub chain_sum : (r : ℕ) → ((ys : List ℕ) × (⊤ → Drains (maps nat_range_steps g) s ys) × (r ≡ fold (λ a x. a + x) 0 ys))
      → map_source s ≡ record { start = 0; end = n } → map_callee s ≡ k
      → ((x r : ℕ) (q : F) → Called g k (x, tt) r q → (q ≡ k) × (r ≡ f (get_or xs x d)))
      → r ≡ sum_by f xs
  chain_sum r ran source callee acts = sum_from_yields_List s r ran (chain source callee acts) ∙ sum_places f xs d n all
