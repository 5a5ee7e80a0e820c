-- The promise, for every list of calls.
use Rattle.std.proofs.Common.{◌≡◌, ℕ, List, is_some, sym, ap, ◌∙◌, subst}
use Rattle.process.specs.Process.{Process, Formed}
use Rattle.sheets.specs.declared.figures.Sheet.{Sheet}
use Rattle.runs.specs.Acts.{Act, Reply, first_standing}
use Rattle.runs.specs.Steps.{final, replies, all_left}
use Rattle.runs.specs.Holds.{BoundsHold}
use Rattle.runs.specs.Promise.{Upheld}
use Rattle.runs.proofs.Soundness.{runs_hold, runs_told}
use Rattle.runs.proofs.Keeping.{delayed, floor_again, hope_again}

pub upheld : (d : ℕ) (p : Process) → Formed d p → (given left_behind : List Act) (answers : List Reply) (sheet : Sheet)
    → sheet ≡ (final d p given first_standing).sheet → answers ≡ replies d p given first_standing
    → left_behind ≡ all_left d p given first_standing → Upheld d p given left_behind answers sheet
upheld d p formed given left_behind answers sheet es ea el =
    record {
      sheet_drawn = es;
      answers_drawn = ea;
      buffers_drawn = el;
      settled_told = ap (λ (s : Sheet). is_some s.bracket.delay) es ∙ runs_told d p formed given;
      bounds = subst (λ (s : Sheet). BoundsHold d p s.bracket) (sym es) (runs_hold d p formed given);
      floor_delayed = delayed d p given;
      floor_kept = floor_again d p given;
      hope_kept = hope_again d p given;
    }
