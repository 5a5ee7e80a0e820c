use Rattle.std.proofs.Common.{◌<◌, ◌≤◌, length, ap, subst, arith}
use Rattle.process.specs.Process.{weights}
use Rattle.process.specs.Queries.{moves_of}
use Rattle.process.specs.Steps.{LeadWithin}
use Rattle.bounds.specs.Vectors.{weight_to, weight_to_target}
use Rattle.flows.proofs.Flowing.{pour_turn, target_room}
use Rattle.flows.proofs.pouring.pour.Goals as goal

pub credit-requires-clause-room : goal.credit-requires-clause-room
credit-requires-clause-room g c =
    λ s h.
    let turn = pour_turn _ _ _ _ _ _ _ (c.loop-step.invariant.0 s h) (ap (weight_to s) c.in-Some.ensures.steps) in
    rw (c.from.ensures, c.from-in-loop-step.ensures) (omega (arith, turn, c.requires.room s (omega arith)))

pub overflow_add-gained : goal.overflow_add-gained
overflow_add-gained g c =
    let ms = moves_of (g.M.Model.meaning c.args.model.now) c.args.state c.args.option in
    let turn = pour_turn _ _ _ _ _ _ _ c.loop-step.invariant.1 (ap weight_to_target c.in-Some.ensures.steps) in
    let limit = subst (λ l. weights l ≤ 65536) c.steps-step-items.ensures.moves c.steps-step-items.ensures.limit in
    rw (c.from.ensures, c.from-in-loop-step.ensures, c.is_target.ensures)
    (omega (arith, turn, target_room c.args.flow ms (omega arith) limit))

pub loop-step-preserved : goal.loop-step-preserved
loop-step-preserved g c = (
  λ s h.
      let l : s < length c.loop-step.tally = omega arith in
      omega (
        arith,
        rw (c.from.ensures, c.from-in-loop-step.ensures) at (c.credit.ensures s l),
        pour_turn _ _ _ _ _ _ _ (c.loop-step.invariant.0 s l) (ap (weight_to s) c.in-Some.ensures.steps),
      ),
  rw (c.from.ensures, c.from-in-loop-step.ensures, c.is_target.ensures)
      (pour_turn _ _ _ _ _ _ _ c.loop-step.invariant.1 (ap weight_to_target c.in-Some.ensures.steps)),
  (subst (LeadWithin (length (g.M.Model.meaning c.args.model.now))) c.in-Some.ensures.steps c.loop-step.invariant.2).1,
)
