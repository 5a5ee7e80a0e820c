-- What the check of a vector with one entry for each state answers, and what it leaves in the marks.
use Rattle.std.specs.Prelude.{ℕ, ◌+◌, Bool, cond, List, [], ◌∷◌, map, length, None, Ok, Err, Option, Result, ◌==◌, nat_le, nat_lt}
use Rattle.refusal.specs.Tellings.{Telling, at_vector}
use Rattle.refusal.specs.Tests.{first_bad, first_false, or_else, unless}
use Rattle.process.specs.declared.place.Move.{Move}
use Rattle.process.specs.Process.{Process}
use Rattle.bounds.specs.Vectors.{value_at}
use Rattle.kinds.specs.declared.state_kind.StateKind.{StateKind}
use Rattle.kinds.specs.declared.state_kind.StateKind.TheVariants.{Floor}
use Rattle.kinds.specs.StateKinds.{limit_of, holds_at}

-- the number of the first option that fails a test, of the states from number s on, the first option being number n
abbrev pub first_failing : (ℕ → List Move → Bool) → ℕ → ℕ → Process → Option ℕ
first_failing ok s n [] = None
first_failing ok s n (os ∷ p) = or_else (first_bad (ok s) n os) (first_failing ok (s + 1) (n + length os) p)

-- 42, 43 or the bound
abbrev pub judgement : StateKind → ℕ → Process → List ℕ → Result ℕ Telling
judgement k d p z =
    unless (at_vector 42) (first_bad (λ x. nat_le x (limit_of k)) 0 z)
    (unless (at_vector 43) (first_failing (holds_at k d (length p) z) 0 0 p) (Ok (value_at z 0)))

-- the answer to a cap or a delay
abbrev pub verdict : StateKind → ℕ → Process → List ℕ → Result ℕ Telling
verdict k d p z = unless (at_vector 41) (first_false ((length z == length p) ∷ [])) (judgement k d p z)

-- the answer to a floor that is given m marks
abbrev pub floor_verdict : ℕ → Process → List ℕ → ℕ → Result ℕ Telling
floor_verdict d p z m =
    unless (at_vector 41) (first_false ((length z == length p) ∷ ((m == length p) ∷ []))) (judgement Floor d p z)

-- 1 where an entry is above 0, and 0 elsewhere
abbrev pub marked : List ℕ → List ℕ
marked z = map (λ x. cond (nat_lt 0 x) 1 0) z

-- the marks after an answer
abbrev pub floor_marks : {A : Type 0} → Result A Telling → List ℕ → List ℕ → List ℕ
floor_marks (Ok b) z marks = marked z
floor_marks (Err e) z marks = marks
