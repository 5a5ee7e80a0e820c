-- The answer is that of the first line, and so keeps the law.
use Rattle.std.proofs.Common.{rules, ◌≡◌, sym, subst}
use Rattle.lines.specs.Lines.{reading, read_line}
use Rattle.lines.specs.View.{line_at, said_by}
use Rattle.lines.specs.Writing.{ReadAsWritten}
use Rattle.refusal.specs.Tellings.{told_as}
use Rattle.lines.proofs.Written.{read_law}
use Rattle.lines.proofs.reader.read_line.Goals as goal

pub returns-in_err-line-clause-written : goal.returns-in_err-line-clause-written
returns-in_err-line-clause-written c =
    let at = c.args.at in
    let t = c.args.text.now in
    let is : told_as (λ x. reading (line_at x.0) (said_by x.0) x.1.now) c.from_residual.result ≡ read_line at t = search rules in
    subst (ReadAsWritten at t) (sym is) (read_law at t)

pub returns-clause-written : goal.returns-clause-written
returns-clause-written c =
    let at = c.args.at in
    let t = c.args.text.now in
    subst (ReadAsWritten at t) (search rules) (read_law at t)
