-- What a walk over the moves of an option has still to yield.
use Rattle.std.specs.Prelude.{ℕ, List, drop}
use Rattle.std.specs.List.{AllByRecursion as Every}
use Rattle.process.specs.declared.place.Move.{Move}
use Rattle.process.specs.declared.Model.{Ghosts}
use Rattle.process.specs.declared.stepping.Steps.{Steps}
use Rattle.process.specs.Process.{Process, Within}
use Rattle.process.specs.Queries.{moves_of}

abbrev pub moves_left : {M : Type 0} {G : Ghosts M} → (M → Process) → Steps M G → List Move
moves_left meaning s = drop s.index (moves_of (meaning s.model.now) s.state s.option)

-- each move leads to a place that exists where there are n states
abbrev pub LeadWithin : ℕ → List Move → Type 0
LeadWithin n ms = Every (λ m. Within n m.place) ms
