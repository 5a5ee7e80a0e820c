-- A line is read, and the state steps.
use Rattle.std.proofs.Common.{Ok, Err, ap, ◌∙◌}
use Rattle.std.proofs.lemmas.Result.{err_from_is_err_and}
use Rattle.refusal.specs.Tellings.{tell}
use Rattle.lines.specs.View.{read as read_as}
use Rattle.passes.specs.Texts.{lines}
use Rattle.passes.specs.Passes.{halt}
use Rattle.passes.proofs.Turns.{advanced_by, advanced-refused}
use Rattle.passes.proofs.passing.Passed.advance.Goals as goal

pub returns-in_err-read-clause-answer : goal.returns-in_err-read-clause-answer
returns-in_err-read-clause-answer g c =
    let p = err_from_is_err_and c.from_residual.result c.from_residual.ensures.1 in
    let s = c.args.self in
    rw (p.1, p.2) (advanced-refused g.A.Automaton.next s.state s.text.at s.text.rest.now _ c.in_err-read.ensures.answer)

pub returns-in_err-state-clause-answer : goal.returns-in_err-state-clause-answer
returns-in_err-state-clause-answer g c =
    let p = err_from_is_err_and c.from_residual-in_err-state.result c.from_residual-in_err-state.ensures.1 in
    let s = c.args.self in
    rw (p.1, p.2)
    (advanced_by g.A.Automaton.next s.state s.text.at s.text.rest.now (read_as c.in_ok-read.read)
    (Err (tell c.in_err-state.field-0.0)) c.in_ok-read.ensures.answer c.in_err-state.ensures)

pub returns-clause-answer : goal.returns-clause-answer
returns-clause-answer g c =
    let s = c.args.self in
    let text = c.in_ok-read.read.text in
    ap (λ n. Ok (halt c.in_ok-state.state n (lines text.rest.now))) c.in_ok-read.ensures.next
    ∙ advanced_by g.A.Automaton.next s.state s.text.at s.text.rest.now (read_as c.in_ok-read.read)
    (Ok c.in_ok-state.state) c.in_ok-read.ensures.answer c.in_ok-state.ensures
