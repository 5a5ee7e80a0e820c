-- What each call makes of a register over a process p at scale d: the standing after it, its answer, and what it leaves in
-- the buffers. Lists of calls follow.
use Rattle.std.specs.Prelude.{◌≡◌, ℕ, ◌+◌, Bool, true, false, cond, not, List, [], ◌∷◌, length, is_ok, Ok, Err, Result, nat_lt}
use Rattle.refusal.specs.Tellings.{Telling}
use Rattle.process.specs.Process.{Process}
use Rattle.kinds.specs.declared.state_kind.StateKind.TheVariants.{Cap, Delay}
use Rattle.kinds.specs.declared.flow_kind.FlowKind.TheVariants.{Hope, Risk}
use Rattle.kinds.specs.FlowKinds.{rounded}
use Rattle.vectors.specs.Verdicts.{verdict, floor_verdict, floor_marks}
use Rattle.flows.specs.declared.flow.Flow.{Flow}
use Rattle.flows.specs.Verdicts.{hope_verdict, risk_verdict, hope_marks, tally_after}
use Rattle.sheets.specs.declared.figures.Bracket.{Bracket}
use Rattle.sheets.specs.declared.figures.Sheet.{Sheet}
use Rattle.sheets.specs.declared.questions.Decision.{Decision}
use Rattle.sheets.specs.Brackets.{lower_cap, higher_floor, given_delay, higher_hope, lower_risk, asked, least_decision, most_decision}
use Rattle.sheets.specs.Counting.{unless_full}
use Rattle.runs.specs.Acts.{Vector, cap, delay, floor, hope, risk, Act, takes, asks_least, asks_most, Reply, accepted, refused, said, skipped, Standing, first_standing}

-- how a bracket meets the flow of an accepted hope, or of an accepted risk
abbrev pub meets_hope : ℕ → Flow → Bracket → Bracket
meets_hope d f = higher_hope (rounded Hope f.sum d) f.visits

abbrev pub meets_risk : ℕ → Flow → Bracket → Bracket
meets_risk d f = lower_risk (rounded Risk f.sum d)

abbrev pub with_bound : {B : Type 0} → (B → Bracket → Bracket) → Result B Telling → Result (Bracket → Bracket) Telling
with_bound meets (Ok b) = Ok (meets b)
with_bound meets (Err e) = Err e

-- what a vector is found to be: refused, or how the bracket meets its bound
abbrev pub finding : ℕ → Process → Vector → Result (Bracket → Bracket) Telling
finding d p (cap z) = with_bound lower_cap (verdict Cap d p z)
finding d p (delay v) = with_bound given_delay (verdict Delay d p v)
finding d p (floor z m) = with_bound higher_floor (floor_verdict d p z (length m))
finding d p (hope y m t) = with_bound (meets_hope d) (hope_verdict d p y (length m) (length t))
finding d p (risk y t) = with_bound (meets_risk d) (risk_verdict d p y (length t))

-- one more taken, and one more passed where the bracket has met a bound
abbrev pub counted : Result (Bracket → Bracket) Telling → Sheet → Sheet
counted (Ok meets) s = record { bracket = meets s.bracket; taken = s.taken + 1; passed = s.passed + 1 }
counted (Err e) s = record { bracket = s.bracket; taken = s.taken + 1; passed = s.passed }

-- a full register looks at nothing
abbrev pub sheet_after : Result (Bracket → Bracket) Telling → Sheet → Sheet
sheet_after found s = cond (nat_lt s.taken 65535) (counted found s) s

-- a floor while open, and a delay when settled, are skipped
abbrev pub skips : Bool → Vector → Bool
skips settled (cap z) = false
skips settled (delay v) = settled
skips settled (floor z m) = not settled
skips settled (hope y m t) = false
skips settled (risk y t) = false

-- whether acceptance settles
abbrev pub settles : Vector → Bool
settles (cap z) = false
settles (delay v) = true
settles (floor z m) = false
settles (hope y m t) = false
settles (risk y t) = false

-- the standing after a vector that is not skipped
abbrev pub taken_in : ℕ → Process → Vector → Standing → Standing
taken_in d p v s =
    record {
      settled = cond (settles v) (is_ok (unless_full s.sheet (finding d p v))) s.settled;
      sheet = sheet_after (finding d p v) s.sheet;
    }

abbrev pub after : ℕ → Process → Act → Standing → Standing
after d p (takes v) s = cond (skips s.settled v) s (taken_in d p v s)
after d p (asks_least l) s = s
after d p (asks_most l) s = s

-- the answers
abbrev pub replied : {B : Type 0} → Result B Telling → Reply
replied (Ok b) = accepted
replied (Err e) = refused e

abbrev pub spoken : Result Decision Telling → Reply
spoken (Ok v) = said v
spoken (Err e) = refused e

abbrev pub reply : ℕ → Process → Act → Standing → Reply
reply d p (takes v) s = cond (skips s.settled v) skipped (replied (unless_full s.sheet (finding d p v)))
reply d p (asks_least l) s = spoken (asked l (least_decision s.sheet.bracket l))
reply d p (asks_most l) s = spoken (asked l (most_decision s.sheet.bracket l))

-- a vector with its buffers as an answer leaves them
abbrev pub left_by : {B : Type 0} → Result B Telling → Process → Vector → Vector
left_by r p (cap z) = cap z
left_by r p (delay v) = delay v
left_by r p (floor z m) = floor z (floor_marks r z m)
left_by r p (hope y m t) = hope y (hope_marks r p y m) (tally_after r p y t)
left_by r p (risk y t) = risk y (tally_after r p y t)

abbrev pub left : ℕ → Process → Act → Standing → Act
left d p (takes v) s =
    takes (cond (skips s.settled v) v (left_by (unless_full s.sheet (finding d p v)) p v))
left d p (asks_least l) s = asks_least l
left d p (asks_most l) s = asks_most l

-- a list of calls
abbrev pub final : ℕ → Process → List Act → Standing → Standing
final d p [] s = s
final d p (a ∷ rest) s = final d p rest (after d p a s)

abbrev pub replies : ℕ → Process → List Act → Standing → List Reply
replies d p [] s = []
replies d p (a ∷ rest) s = reply d p a s ∷ replies d p rest (after d p a s)

abbrev pub all_left : ℕ → Process → List Act → Standing → List Act
all_left d p [] s = []
all_left d p (a ∷ rest) s = left d p a s ∷ all_left d p rest (after d p a s)

-- some list of calls leads from the making of a register to this standing
pub data Reached (d : ℕ) (p : Process) (s : Standing) : Type 0 where
  by_calls : (acts : List Act) → final d p acts first_standing ≡ s → Reached d p s

-- One call on a register: its answer, the standing and the buffers after it are the ones above, and what was reached by
-- calls stays so.
pub record Stepped (d : ℕ) (p : Process) (given kept : Act) (before next : Standing) (answer : Reply) : Type 0 where
  pub answer_drawn : answer ≡ reply d p given before
  pub standing_drawn : next ≡ after d p given before
  pub buffers_drawn : kept ≡ left d p given before
  pub reached : Reached d p before → Reached d p next
