use Rattle.std.proofs.Common.{◌≡◌}
use Rattle.std.specs.Slice.Iter.{chunks_exact_rest, chunks_exact_size}
use Rattle.std.specs.Iterator.Adapters.{enumerate_source, enumerate_count}
use Rattle.refusal.specs.Tests.{first_bad}
use Rattle.encoding.specs.Reading.{moves_read}
use Rattle.encoding.specs.Answers.{move_fits}
use Rattle.table.proofs.checks.bad_move.Given as goal

-- what is left is searched for what the whole list is searched for
abbrev pub invariant-loop-index : goal.invariant-loop-index
invariant-loop-index l =
    record {
      can_next : (goal.iterator-loop-index).can_next l.index-iterator;
      is_finite : (goal.iterator-loop-index).is_finite l.index-iterator;
      pairs : chunks_exact_size (enumerate_source l.index-iterator) ≡ 2;
      so_far :
          first_bad (move_fits l.scale l.states) (enumerate_count l.index-iterator) (moves_read (chunks_exact_rest (enumerate_source l.index-iterator)))
          ≡ first_bad (move_fits l.scale l.states) 0 (moves_read l.moves);
    }
