use Rattle.std.proofs.Common.{cond, ltb, length, arith}
use Rattle.std.proofs.lemmas.List.FromFn.{fill_by_all}
use Rattle.bounds.specs.Vectors.{own}
use Rattle.flows.proofs.amounts.Amounts.mark_spent.Goals as goal

pub returns : goal.returns
returns g c =
    let y = c.args.self.now in
    let p = g.M.Model.meaning y.model.now in
    fill_by_all (λ s. cond (ltb 0 (own p y.entries.now s)) 1 0) c.loop-state.marks (length p) 0 (omega arith)
    (λ k h. c.loop-state.invariant k (omega arith))
