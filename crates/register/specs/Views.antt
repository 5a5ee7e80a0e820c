-- A register as its calls see it, and what a delay hands back as a standing, an answer and a model.
use Rattle.std.specs.Prelude.{Ok, Err, Result}
use Rattle.refusal.specs.Tellings.{Telling, tell}
use Rattle.runs.specs.Acts.{Standing, standing_of}
use Rattle.process.specs.declared.Model.{Ghosts as Model-ghosts}
use Rattle.register.specs.declared.book.Stage.{Ghosts as Stage-ghosts}
use Rattle.register.specs.declared.book.Register.{Register}
use Rattle.register.specs.declared.book.Unsettled.{Unsettled}

abbrev pub standing : {X Y : Type 0} {G : Model-ghosts X} {H : Stage-ghosts Y} → Register X Y G H → Standing
standing {H} r = standing_of H.settled r.sheet

module _ {X Y : Type 0} {G : Model-ghosts X} {H : Stage-ghosts Y} where
  abbrev pub standing_after : Result (Register X Y G H) (Unsettled X G) → Standing
  standing_after (Ok r) = standing r
  standing_after (Err u) = standing u.register

  abbrev pub told_after : Result (Register X Y G H) (Unsettled X G) → Result (Unit {0}) Telling
  told_after (Ok r) = Ok tt
  told_after (Err u) = Err (tell u.refusal)

  abbrev pub model_after : Result (Register X Y G H) (Unsettled X G) → X
  model_after (Ok r) = r.model
  model_after (Err u) = u.register.model
