-- A search through the options of every state, part of the way.
use Rattle.std.proofs.Common.{◌≡◌, ℕ, ◌+◌, ◌<◌, ◌≤◌, Bool, List, [], length, get_or, take, drop, Option, sym, ap, ◌∙◌}
use Rattle.std.proofs.lemmas.List.{at_drop_all}
use Rattle.refusal.specs.Tests.{first_bad, or_else}
use Rattle.process.specs.declared.place.Move.{Move}
use Rattle.process.specs.Process.{Process, joined}
use Rattle.process.proofs.Joined.{length-joined_more}
use Rattle.vectors.specs.Verdicts.{first_failing}

-- the search for the first option that fails, from a state on, and from an option of a state on
module _ (ok : ℕ → List Move → Bool) (p : Process) where
  abbrev pub from_state : ℕ → Option ℕ
  from_state s = first_failing ok s (length (joined (take s p))) (drop s p)

  abbrev later : ℕ → Option ℕ
  later s = first_failing ok (s + 1) (length (joined (take s p)) + length (get_or p s [])) (drop (s + 1) p)

  abbrev pub from_option : ℕ → ℕ → Option ℕ
  from_option s k = or_else (first_bad (ok s) (length (joined (take s p)) + k) (drop k (get_or p s []))) (later s)

  pub search_out : (s k : ℕ) → s < length p → length (get_or p s []) ≤ k → from_option s k ≡ from_state (s + 1)
  search_out s k h l =
      ap (λ x. or_else x (later s)) (at_drop_all (first_bad (ok s) (length (joined (take s p)) + k)) (get_or p s []) k l)
      ∙ ap (λ n. first_failing ok (s + 1) n (drop (s + 1) p)) (sym (length-joined_more p s h))
