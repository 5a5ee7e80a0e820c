use Rattle.std.proofs.Common.{arith}
use Rattle.process.specs.Queries.{moves_of}
use Rattle.process.specs.Walks.{no_move}
use Rattle.process.proofs.Yielding.{left_total}
use Rattle.process.proofs.moves.StepsIterator.next.Goals as goal

pub returns-clause-steps : goal.returns-clause-steps
returns-clause-steps g c =
    let s = c.args.self.now in
    let ms = moves_of (g.M.Model.meaning s.model.now) s.state s.option in
    left_total ms s.index c.step_of-step.result no_move (omega arith) c.step_of-step.ensures.answer
