-- What is refused after the end of a depot text.
use Rattle.std.proofs.Common.{◌≡◌, ℕ, ◌<◌, List, [], ◌∷◌, length, Some, None, Err, Option, Result, refl, arith}
use Rattle.refusal.specs.Tellings.{Telling, at_text}
use Rattle.lines.specs.Lines.{Said, Reading, first_line, after_line, parsed, ruled, read_line}
use Rattle.passes.specs.Texts.{lines}
use Rattle.passes.specs.Passes.{then, on_said}
use Rattle.passes.proofs.Cuts.{lines_cut}
use Rattle.depot_text.specs.declared.progress.Depot.{Depot}
use Rattle.depot_text.specs.Loading.{nothing_after}

module _ (m : Depot) (at : ℕ) where
  abbrev pub too_late : Reading → Result Depot Telling
  too_late x = Err (at_text 12 at)

  said_late : (o : Option Said) (rest : List ℕ) → on_said (λ (m : Depot) at x. Err (at_text 12 at)) m at o ≡ then (ruled at o rest) too_late
  said_late None rest = refl
  said_late (Some x) rest = refl

  -- the next line, if there is one, is read and refused
  pub after_end : (t : List ℕ) → 0 < length t → nothing_after m at (lines t) ≡ then (read_line at t) too_late
  after_end [] h = absurd (omega arith)
  after_end (b ∷ bs) h =
      rw (lines_cut (b ∷ bs) h) (said_late (parsed (first_line (b ∷ bs))) (after_line (b ∷ bs)))
