use Rattle.std.proofs.Common.{length}
use Rattle.encoding.specs.Lists.{lists as lists_of}
use Rattle.passes.specs.View.{view}
use Rattle.passes.proofs.Turns.{Going}
use Rattle.passes.proofs.passing.pass.Given as goal

abbrev pub invariant-loop-passed : goal.invariant-loop-passed
invariant-loop-passed g l =
    Going g.A.Automaton.next g.A.Automaton.ended g.A.Automaton.puts l.fn.text.at l.fn.text.rest.now l.fn.start
    (view l.fn.lists) l.passed.state l.passed.text.at l.passed.text.rest.now (lists_of l.options l.starts l.moves)

abbrev pub decreases-loop-passed : goal.decreases-loop-passed
decreases-loop-passed g l = length l.passed.text.rest.now
