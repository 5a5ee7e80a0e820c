-- What three lists say.
use Rattle.std.specs.Prelude.{ℕ, ◌-◌, cond, List, [], ◌∷◌, take, drop, ◌==◌}
use Rattle.process.specs.declared.place.End.TheVariants.{Target, Exit}
use Rattle.process.specs.declared.place.Place.{Place}
use Rattle.process.specs.declared.place.Place.TheVariants.{State, End as Ends}
use Rattle.process.specs.declared.place.Move.{Move}
use Rattle.process.specs.Process.{Process}
use Rattle.encoding.specs.Lists.{Lists}

-- 4096 is the target, 4097 the exit, and any other number a state
abbrev pub place_read : ℕ → Place
place_read n = cond (n == 4096) (Ends Target) (cond (n == 4097) (Ends Exit) (State n))

abbrev pub moves_read : List ℕ → List Move
moves_read [] = []
moves_read (p ∷ []) = []
moves_read (p ∷ (w ∷ rest)) = record { place = place_read p; weight = w } ∷ moves_read rest

-- a list cut at its starts: each piece goes from one start to the next
abbrev pub pieces : {A : Type 0} → List ℕ → List A → List (List A)
pieces [] xs = []
pieces (a ∷ []) xs = []
pieces (a ∷ (b ∷ rest)) xs = take (b - a) (drop a xs) ∷ pieces (b ∷ rest) xs

abbrev pub options_read : Lists → List (List Move)
options_read l = pieces l.move_starts (moves_read l.moves)

abbrev pub process_read : Lists → Process
process_read l = pieces l.option_starts (options_read l)
