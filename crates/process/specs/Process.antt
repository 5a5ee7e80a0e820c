-- What a model means: a decision process, as a list of states, each a list of options, each a list of moves.
use Rattle.std.specs.Prelude.{◌≡◌, ℕ, ◌+◌, ◌<◌, ◌≤◌, List, [], ◌∷◌, ◌++◌, length}
use Rattle.std.specs.List.{AllByRecursion as Every}
use Rattle.process.specs.declared.place.Place.{Place}
use Rattle.process.specs.declared.place.Place.TheVariants.{State, End as Ends}
use Rattle.process.specs.declared.place.Move.{Move}

abbrev pub Process : Type 0
Process = List (List (List Move))

-- lists one after another; of a process all options, and of those all moves
abbrev pub joined : {A : Type 0} → List (List A) → List A
joined [] = []
joined (xs ∷ xss) = xs ++ joined xss

abbrev pub weights : List Move → ℕ
weights [] = 0
weights (m ∷ ms) = m.weight + weights ms

-- a place that exists where there are n states
abbrev pub Within : ℕ → Place → Type 0
Within n (State s) = s < n
Within n (Ends q) = Unit {0}

-- an option at scale d, where there are n states
pub record OptionFormed (d n : ℕ) (ms : List Move) : Type 0 where
  pub some_move : 1 ≤ length ms
  pub sum : weights ms ≡ d
  pub places : Every (λ m. Within n m.place) ms

pub record StateFormed (d n : ℕ) (os : List (List Move)) : Type 0 where
  pub some_option : 1 ≤ length os
  pub each : Every (OptionFormed d n) os

-- a process that is well formed at scale d
pub record Formed (d : ℕ) (p : Process) : Type 0 where
  pub scale_positive : 1 ≤ d
  pub scale_limit : d ≤ 65536
  pub some_state : 1 ≤ length p
  pub state_limit : length p ≤ 4096
  pub option_limit : length (joined p) ≤ 16384
  pub move_limit : length (joined (joined p)) ≤ 65536
  pub each : Every (StateFormed d (length p)) p
