use Rattle.std.proofs.Common.{true, false, is_ok, ap, arith}
use Rattle.std.proofs.lemmas.Result.{err_from_is_err_and}
use Rattle.std.proofs.lemmas.Bool.{false≢true}
use Rattle.encoding.specs.Lent.{lent}
use Rattle.encoding.specs.Reading.{process_read}
use Rattle.encoding.proofs.Law.{answer_law}
use Rattle.table.proofs.Table.open.Goals as goal

pub returns-in_err-self-clause-spelled : goal.returns-in_err-self-clause-spelled
returns-in_err-self-clause-spelled c =
    let p = err_from_is_err_and c.from_residual.result c.from_residual.ensures.1 in
    rw (p.1)
    (answer_law 1000 (lent c.args.lists) false _ (omega arith) (omega arith) (ap is_ok c.in_err-self.ensures.answer) (λ t. absurd (false≢true t)))

pub returns-clause-spelled : goal.returns-clause-spelled
returns-clause-spelled c =
    answer_law 1000 (lent c.args.lists) true _ (omega arith) (omega arith) (ap is_ok c.in_ok-self.ensures.answer) (λ _. ap process_read c.in_ok-self.ensures.lists)
