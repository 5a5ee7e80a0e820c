use Rattle.std.proofs.Common.{◌+◌, arith}
use Rattle.table.proofs.Found.{good, run_within}
use Rattle.table.proofs.Table.run.Goals as goal

pub span_from-requires-clause-rise : goal.span_from-requires-clause-rise
span_from-requires-clause-rise c =
    omega (arith, (run_within 1000 _ (good c.args.self.now) (c.in_ok-span.span.first + c.args.option) (omega (arith, c.in_ok-span.ensures.within))).0)

pub returns-clause-within : goal.returns-clause-within
returns-clause-within c =
    let w = run_within 1000 _ (good c.args.self.now) (c.in_ok-span.span.first + c.args.option) (omega (arith, c.in_ok-span.ensures.within)) in
    rw c.span_from.ensures (omega (arith, w.0, w.1))
