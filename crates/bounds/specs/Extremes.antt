-- The greatest and the least hits over all orders, by recursion on the number of moves.
use Rattle.std.specs.Prelude.{ℕ, zero, suc, ◌^◌, min, max, List, [], ◌∷◌, slice_index_or}
use Rattle.process.specs.Process.{Process}
use Rattle.process.specs.Means.{mean, worth}

abbrev pub greatest : {A : Type 0} → (A → ℕ) → List A → ℕ
greatest f [] = 0
greatest f (x ∷ xs) = max (f x) (greatest f xs)

-- 0 where there is none
abbrev pub least : {A : Type 0} → (A → ℕ) → List A → ℕ
least f [] = 0
least f (x ∷ []) = f x
least f (x ∷ (y ∷ xs)) = min (f x) (least f (y ∷ xs))

abbrev pub best : ℕ → Process → ℕ → ℕ → ℕ
best d p zero s = 0
best d p (suc N) s = greatest (mean (worth (best d p N) (d ^ N))) (slice_index_or p s [])

abbrev pub worst : ℕ → Process → ℕ → ℕ → ℕ
worst d p zero s = 0
worst d p (suc N) s = least (mean (worth (worst d p N) (d ^ N))) (slice_index_or p s [])
