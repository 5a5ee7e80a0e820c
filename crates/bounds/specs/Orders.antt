-- Charging orders, and the hits that they have.
use Rattle.std.specs.Prelude.{ℕ, zero, suc, ◌^◌, ◌<◌, Bool, List, [], ◌∷◌, length, slice_index_or}
use Rattle.process.specs.declared.place.End.{End}
use Rattle.process.specs.declared.place.Move.{Move}
use Rattle.process.specs.Process.{Process}
use Rattle.process.specs.Queries.{moves_of}
use Rattle.process.specs.Means.{mean, is_target, paid, valued}

-- the moves that are played in a state after a list of earlier states, the newest first
abbrev pub Play : Type 0
Play = ℕ → List ℕ → List Move

-- of e ^ N, the weight that has come to the ends that are looked for within N moves
abbrev pub arrived_to : (End → Bool) → ℕ → Play → ℕ → ℕ → List ℕ → ℕ
arrived_to goal e play zero s h = 0
arrived_to goal e play (suc N) s h =
    mean (valued (λ s'. arrived_to goal e play N s' (s ∷ h)) (paid goal (e ^ N))) (play s h)

abbrev pub arrived : ℕ → Play → ℕ → ℕ → List ℕ → ℕ
arrived = arrived_to is_target

-- An order names one option of the last state for every list of states seen so far: that state, and the earlier ones,
-- the newest first.
pub record Order (p : Process) : Type 0 where
  pub picks : ℕ → List ℕ → ℕ
  pub allowed : (s : ℕ) (h : List ℕ) → s < length p → picks s h < length (slice_index_or p s [])

abbrev pub played : (p : Process) → Order p → Play
played p c s h = moves_of p s (c.picks s h)

-- R(N, h followed by s) at scale d: of d ^ N, the weight that comes to the target within N moves
abbrev pub hits : (d : ℕ) (p : Process) → Order p → ℕ → ℕ → List ℕ → ℕ
hits d p c N s h = arrived d (played p c) N s h
