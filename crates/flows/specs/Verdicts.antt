-- What the check of a vector with one entry for each option answers, and what it leaves in the marks and the tally.
use Rattle.std.specs.Prelude.{ℕ, true, cond, List, [], ◌∷◌, map, length, Ok, Err, sum, Result, ◌==◌, nat_le, nat_lt}
use Rattle.std.specs.List.{range_with_len}
use Rattle.refusal.specs.Tellings.{Telling, at_vector}
use Rattle.refusal.specs.Tests.{first_bad, first_false, unless}
use Rattle.process.specs.Process.{Process, joined}
use Rattle.bounds.specs.Vectors.{inflow, own, gain}
use Rattle.flows.specs.declared.flow.Flow.{Flow}
use Rattle.kinds.specs.declared.flow_kind.FlowKind.{FlowKind}
use Rattle.kinds.specs.declared.flow_kind.FlowKind.TheVariants.{Hope, Risk}
use Rattle.kinds.specs.FlowKinds.{state_holds}

abbrev pub flow_of : Process → List ℕ → Flow
flow_of p y = record { sum = gain p y; visits = sum y }

-- 42, 43 or what the vector gives
abbrev pub judgement : FlowKind → ℕ → Process → List ℕ → Result Flow Telling
judgement k d p y =
    unless (at_vector 42) (first_bad (λ x. nat_le x 1073741824) 0 y)
    (unless (at_vector 43) (first_bad (state_holds k d p y) 0 (range_with_len 0 (length p))) (Ok (flow_of p y)))

-- the answer to a hope that is given m marks and a tally of t
abbrev pub hope_verdict : ℕ → Process → List ℕ → ℕ → ℕ → Result Flow Telling
hope_verdict d p y m t =
    unless (at_vector 41) (first_false ((length y == length (joined p)) ∷ ((m == length p) ∷ ((t == length p) ∷ []))))
    (judgement Hope d p y)

-- the answer to a risk, which has no marks, that is given a tally of t
abbrev pub risk_verdict : ℕ → Process → List ℕ → ℕ → Result Flow Telling
risk_verdict d p y t =
    unless (at_vector 41) (first_false ((length y == length (joined p)) ∷ (true ∷ ((t == length p) ∷ []))))
    (judgement Risk d p y)

-- a list with one number for each state
abbrev pub each_state : Process → (ℕ → ℕ) → List ℕ
each_state p f = map f (range_with_len 0 (length p))

abbrev pub inflows : Process → List ℕ → List ℕ
inflows p y = each_state p (inflow p y)

-- 1 where some entry of the state is above 0, and 0 elsewhere
abbrev pub spending : Process → List ℕ → List ℕ
spending p y = each_state p (λ s. cond (nat_lt 0 (own p y s)) 1 0)

-- the tally after an answer: the inflows once lengths and entries have passed
abbrev pub tally_after : {A : Type 0} → Result A Telling → Process → List ℕ → List ℕ → List ℕ
tally_after (Ok flow) p y tally = inflows p y
tally_after (Err e) p y tally = cond (e.number == 43) (inflows p y) tally

-- the marks after an answer
abbrev pub hope_marks : {A : Type 0} → Result A Telling → Process → List ℕ → List ℕ → List ℕ
hope_marks (Ok flow) p y marks = spending p y
hope_marks (Err e) p y marks = marks
