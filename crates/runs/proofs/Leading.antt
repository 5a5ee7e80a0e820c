-- One more call after a list of calls.
use Rattle.std.proofs.Common.{◌≡◌, ℕ, List, [], ◌∷◌, ◌++◌, sym, refl, ap, ◌∙◌, subst}
use Rattle.process.specs.Process.{Process, Formed}
use Rattle.runs.specs.Acts.{Act, Reply, Standing, first_standing}
use Rattle.runs.specs.Steps.{after, reply, left, final, Reached, by_calls, Stepped}
use Rattle.runs.specs.Holds.{BoundsHold}
use Rattle.runs.proofs.Soundness.{runs_hold}

module _ (d : ℕ) (p : Process) where
  final_push : (acts : List Act) (a : Act) (s : Standing) → final d p (acts ++ a ∷ []) s ≡ after d p a (final d p acts s)
  final_push [] a s = refl
  final_push (b ∷ rest) a s = final_push rest a (after d p b s)

  reached_more : (a : Act) (s t : Standing) → t ≡ after d p a s → Reached d p s → Reached d p t
  reached_more a s t h (by_calls acts l) =
      by_calls (acts ++ a ∷ []) (final_push acts a first_standing ∙ ap (after d p a) l ∙ sym h)

  pub reached_holds : Formed d p → (s : Standing) → Reached d p s → BoundsHold d p s.sheet.bracket
  reached_holds formed s (by_calls acts l) =
      subst (λ (t : Standing). BoundsHold d p t.sheet.bracket) l (runs_hold d p formed acts)

-- a call whose parts are in hand
pub stepped : {d : ℕ} {p : Process} {given kept : Act} {before next : Standing} {answer : Reply} → answer ≡ reply d p given before
    → next ≡ after d p given before → kept ≡ left d p given before → Stepped d p given kept before next answer
stepped {d} {p} {given} {kept} {before} {next} ea es el =
    record {
      answer_drawn = ea;
      standing_drawn = es;
      buffers_drawn = el;
      reached = reached_more d p given before next es;
    }
