-- The promise: what a register makes of a list of calls, from its making to its closing.
use Rattle.std.specs.Prelude.{◌≡◌, ℕ, Bool, true, List, [], ◌∷◌, ◌++◌, length, is_some, slice_index}
use Rattle.process.specs.Process.{Process}
use Rattle.process.specs.Parts.{part_of}
use Rattle.kinds.specs.declared.state_kind.StateKind.TheVariants.{Delay}
use Rattle.vectors.specs.Verdicts.{verdict, floor_verdict}
use Rattle.flows.specs.Verdicts.{hope_verdict}
use Rattle.sheets.specs.declared.figures.Sheet.{Sheet}
use Rattle.runs.specs.Acts.{Vector, cap, delay, floor, hope, risk, Act, takes, asks_least, asks_most, Reply, accepted, first_standing}
use Rattle.runs.specs.Steps.{final, reply, left, replies, all_left}
use Rattle.runs.specs.Holds.{BoundsHold}

-- a vector of the list that was accepted, with the calls before and after it
pub record AcceptedIn (d : ℕ) (p : Process) (acts : List Act) (v : Vector) : Type 0 where
  pub earlier : List Act
  pub later : List Act
  pub whole : acts ≡ earlier ++ takes v ∷ later
  pub passes : reply d p (takes v) (final d p earlier first_standing) ≡ accepted

abbrev pub vector_marks : Vector → List ℕ
vector_marks (cap z) = []
vector_marks (delay v) = []
vector_marks (floor z m) = m
vector_marks (hope y m t) = m
vector_marks (risk y t) = []

abbrev pub marks_of : Act → List ℕ
marks_of (takes v) = vector_marks v
marks_of (asks_least l) = []
marks_of (asks_most l) = []

-- the marks that an accepted vector wrote
abbrev pub marks_written : {d : ℕ} {p : Process} {acts : List Act} {v : Vector} → AcceptedIn d p acts v → List ℕ
marks_written {d} {p} {acts} {v} i = marks_of (left d p (takes v) (final d p i.earlier first_standing))

-- a set of states that holds at least the marked ones
abbrev pub HoldsMarked : (ℕ → Bool) → List ℕ → Type 0
HoldsMarked kept marks = (s : ℕ) → slice_index marks s ≡ 1 → kept s ≡ true

-- over the part that keeps a set, a fresh register takes the delay and then the floor, with any marks of the right length:
-- both are accepted, to the bounds that they had, and the floor writes the marks that it wrote
pub record FloorAgain (d : ℕ) (p : Process) (kept : ℕ → Bool) (v z m marks : List ℕ) : Type 0 where
  pub answers : (fresh : List ℕ) → length fresh ≡ length p
      → replies d (part_of kept p) (takes (delay v) ∷ (takes (floor z fresh) ∷ [])) first_standing
      ≡ accepted ∷ (accepted ∷ [])
  pub same_marks : (fresh : List ℕ) → length fresh ≡ length p
      → all_left d (part_of kept p) (takes (delay v) ∷ (takes (floor z fresh) ∷ [])) first_standing
      ≡ takes (delay v) ∷ (takes (floor z marks) ∷ [])
  pub same_bound : floor_verdict d (part_of kept p) z (length p) ≡ floor_verdict d p z (length m)
  pub same_delay : verdict Delay d (part_of kept p) v ≡ verdict Delay d p v

-- and a hope, with any marks and any tally of the right length, to the same sum and visits
pub record HopeAgain (d : ℕ) (p : Process) (kept : ℕ → Bool) (y m t marks : List ℕ) : Type 0 where
  pub answers : (fresh tally : List ℕ) → length fresh ≡ length p → length tally ≡ length p
      → replies d (part_of kept p) (takes (hope y fresh tally) ∷ []) first_standing ≡ accepted ∷ []
  pub same_marks : (fresh tally : List ℕ) → length fresh ≡ length p → length tally ≡ length p
      → marks_of (left d (part_of kept p) (takes (hope y fresh tally)) first_standing) ≡ marks
  pub same_bound_and_visits :
      hope_verdict d (part_of kept p) y (length p) (length p) ≡ hope_verdict d p y (length m) (length t)

-- calls as they were given and as they are left, the answers and the sheet at the end, over a process p at scale d
pub record Upheld (d : ℕ) (p : Process) (given left_behind : List Act) (answers : List Reply) (sheet : Sheet) : Type 0 where
  -- they are what the definitions draw from the process and the calls
  pub sheet_drawn : sheet ≡ (final d p given first_standing).sheet
  pub answers_drawn : answers ≡ replies d p given first_standing
  pub buffers_drawn : left_behind ≡ all_left d p given first_standing
  pub settled_told : is_some sheet.bracket.delay ≡ (final d p given first_standing).settled
  -- the bracket bounds the orders, and no bound crosses another
  pub bounds : BoundsHold d p sheet.bracket
  -- every accepted floor came after an accepted delay,
  pub floor_delayed : (z m : List ℕ) (i : AcceptedIn d p given (floor z m))
      → (v : List ℕ) × AcceptedIn d p i.earlier (delay v)
  -- and passes again after it over every part that holds the marked states,
  pub floor_kept : (z m v : List ℕ) (i : AcceptedIn d p given (floor z m)) → AcceptedIn d p given (delay v)
      → (kept : ℕ → Bool) → HoldsMarked kept (marks_written i) → FloorAgain d p kept v z m (marks_written i)
  -- as does every accepted hope
  pub hope_kept : (y m t : List ℕ) (i : AcceptedIn d p given (hope y m t))
      → (kept : ℕ → Bool) → HoldsMarked kept (marks_written i) → HopeAgain d p kept y m t (marks_written i)
