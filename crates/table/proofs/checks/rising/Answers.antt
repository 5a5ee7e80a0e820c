use Rattle.std.proofs.Common.{◌≤◌, ◌∙◌, length, arith}
use Rattle.std.proofs.lemmas.Bool.{false≢true}
use Rattle.std.proofs.lemmas.Bool.Decides.{nat_tests}
use Rattle.table.proofs.Turns.{starts_value, starts_no}
use Rattle.table.proofs.checks.rising.Goals as goal

pub returns-then-steps_up : goal.returns-then-steps_up
returns-then-steps_up c =
    let n : 1 ≤ length c.args.list.now = grind (arith, nat_tests, c.if-is_empty.ensures) in
    starts_value c.args.list.now c.args.end n c.if-list-ne0.false (c.steps_up.ensures.0 c.if-steps_up.true)

pub returns-else-steps_up : goal.returns-else-steps_up
returns-else-steps_up c =
    c.if-steps_up.false
    ∙ starts_no c.args.list.now c.args.end (λ h. let t = c.steps_up.ensures.1 h in false≢true (rw c.if-steps_up.false at t))
