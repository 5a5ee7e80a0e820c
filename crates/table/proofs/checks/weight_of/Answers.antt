use Rattle.std.proofs.Common.{◌∙◌, ap, arith}
use Rattle.std.specs.Slice.Iter.{chunks_exact_rest}
use Rattle.process.specs.Process.{weights}
use Rattle.encoding.specs.Reading.{moves_read}
use Rattle.table.proofs.Turns.{pair_read, weights_bound}
use Rattle.table.proofs.checks.weight_of.Goals as goal

pub overflow_add-sum : goal.overflow_add-sum
overflow_add-sum c =
    let s = c.in-Some.ensures.steps.1 in
    let e = ap (λ l. weights (moves_read l)) s.0 ∙ ap weights (pair_read c.in-Some.pair.now (chunks_exact_rest c.next.new.self) (s.1 ∙ c.loop-pair.invariant.pairs)) in
    omega (arith, e, c.loop-pair.invariant.so_far, weights_bound c.args.moves.now c.type_inv.moves, c.from-sum.ensures)
