use Rattle.std.proofs.Common.{◌≡◌, drop}
use Rattle.std.specs.Slice.Iter.{windows_rest, windows_size}
use Rattle.std.specs.Iterator.Adapters.{enumerate_source, enumerate_count}
use Rattle.refusal.proofs.Tests.{Searched}
use Rattle.encoding.specs.Reading.{moves_read, pieces}
use Rattle.encoding.specs.Answers.{sum_fits}
use Rattle.table.proofs.checks.bad_sum.Given as goal

abbrev pub invariant-loop-option : goal.invariant-loop-option
invariant-loop-option l =
    record {
      can_next : (goal.iterator-loop-option).can_next l.option-iterator;
      is_finite : (goal.iterator-loop-option).is_finite l.option-iterator;
      pairs : windows_size (enumerate_source l.option-iterator) ≡ 2;
      left : windows_rest (enumerate_source l.option-iterator) ≡ drop (enumerate_count l.option-iterator) l.starts;
      so_far : Searched (sum_fits l.scale) (pieces l.starts (moves_read l.moves)) (enumerate_count l.option-iterator);
    }
