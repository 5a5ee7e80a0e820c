use Rattle.std.proofs.Common.{ap, ◌∙◌}
use Rattle.process.specs.Process.{weights}
use Rattle.table.proofs.Turns.{moves_between}
use Rattle.table.proofs.checks.weight_between.Goals as goal

pub returns : goal.returns
returns c = c.weight_of.ensures ∙ ap weights (moves_between c.args.moves.now c.args.from c.args.to)
