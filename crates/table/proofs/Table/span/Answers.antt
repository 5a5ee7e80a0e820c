use Rattle.std.proofs.Common.{arith}
use Rattle.table.proofs.Found.{good, span_within}
use Rattle.table.proofs.Table.span.Goals as goal

pub span_from-requires-clause-rise : goal.span_from-requires-clause-rise
span_from-requires-clause-rise c = omega (arith, (span_within 1000 _ (good c.args.self.now) c.args.state (omega arith)).0)

pub returns-clause-within : goal.returns-clause-within
returns-clause-within c =
    let w = span_within 1000 _ (good c.args.self.now) c.args.state (omega arith) in
    rw c.span_from.ensures (omega (arith, w.0, w.1))
