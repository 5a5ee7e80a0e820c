use Rattle.std.proofs.Common.{◌≡◌, ◌+◌}
use Rattle.std.specs.Slice.Iter.{chunks_exact_rest, chunks_exact_size}
use Rattle.process.specs.Process.{weights}
use Rattle.encoding.specs.Reading.{moves_read}
use Rattle.table.proofs.checks.weight_of.Given as goal

abbrev pub invariant-loop-pair : goal.invariant-loop-pair
invariant-loop-pair l =
    record {
      can_next : (goal.iterator-loop-pair).can_next l.pair-iterator;
      is_finite : (goal.iterator-loop-pair).is_finite l.pair-iterator;
      pairs : chunks_exact_size l.pair-iterator ≡ 2;
      so_far : l.sum + weights (moves_read (chunks_exact_rest l.pair-iterator)) ≡ weights (moves_read l.moves);
    }
