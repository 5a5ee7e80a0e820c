-- What a register is given and what it answers.
use Rattle.std.specs.Prelude.{ℕ, Bool, true, false, List}
use Rattle.refusal.specs.Tellings.{Telling}
use Rattle.sheets.specs.declared.figures.Sheet.{Sheet}
use Rattle.sheets.specs.declared.questions.Decision.{Decision}
use Rattle.sheets.specs.Brackets.{first_sheet}

-- a vector with the marks and the tally that it is given
pub data Vector : Type 0 where
  cap : List ℕ → Vector
  delay : List ℕ → Vector
  floor : List ℕ → List ℕ → Vector
  hope : List ℕ → List ℕ → List ℕ → Vector
  risk : List ℕ → List ℕ → Vector

-- a call: a vector, or a question about a chance
pub data Act : Type 0 where
  takes : Vector → Act
  asks_least : ℕ → Act
  asks_most : ℕ → Act

-- what a call answers, with a refusal as it is told
pub data Reply : Type 0 where
  accepted : Reply
  refused : Telling → Reply
  said : Decision → Reply
  skipped : Reply

-- a register as its calls see it: whether a delay has settled it, and its sheet
pub record Standing : Type 0 where
  pub settled : Bool
  pub sheet : Sheet

-- how a register whose stage is settled or not stands at a sheet
abbrev pub standing_of : Bool → Sheet → Standing
standing_of t s = record { settled = t; sheet = s }

abbrev pub opened : Sheet → Standing
opened s = standing_of false s

abbrev pub settled_at : Sheet → Standing
settled_at s = standing_of true s

abbrev pub first_standing : Standing
first_standing = opened first_sheet
