-- The greatest and the least under one name: what is kept of two numbers, what is picked of a list, and the hits.
use Rattle.std.specs.Prelude.{ℕ, ◌^◌, min, max, List}
use Rattle.process.specs.declared.place.Move.{Move}
use Rattle.process.specs.Process.{Process}
use Rattle.process.specs.Means.{mean, worth}
use Rattle.bounds.specs.Extremes.{greatest, least, best, worst}
use Rattle.lookahead.specs.declared.turns.Side.{Side}
use Rattle.lookahead.specs.declared.turns.Side.TheVariants.{Greatest, Least}

abbrev pub kept : Side → ℕ → ℕ → ℕ
kept Greatest a b = max a b
kept Least a b = min a b

abbrev pub picked : {A : Type 0} → Side → (A → ℕ) → List A → ℕ
picked Greatest = greatest
picked Least = least

-- the hits from a state within some moves, at scale d
abbrev pub outlook : Side → ℕ → Process → ℕ → ℕ → ℕ
outlook Greatest = best
outlook Least = worst

-- the hits of an option, each move by its weight, with k moves left after the one that is made
abbrev pub mean_outlook : Side → ℕ → Process → ℕ → List Move → ℕ
mean_outlook side d p k = mean (worth (outlook side d p k) (d ^ k))
