-- The first bracket and sheet, how a bracket meets the bound of an accepted vector, and what it says to a question.
use Rattle.std.specs.Prelude.{ℕ, min, max, Bool, true, false, cond, Some, None, Ok, Err, Result, ◌==◌, nat_le, nat_lt}
use Rattle.refusal.specs.Tellings.{Telling, at_register}
use Rattle.sheets.specs.declared.figures.Bracket.{Bracket}
use Rattle.sheets.specs.declared.figures.Sheet.{Sheet}
use Rattle.sheets.specs.declared.questions.Decision.{Decision}
use Rattle.sheets.specs.declared.questions.Decision.TheVariants.{Yes, No, Undecided}

abbrev pub first_bracket : Bracket
first_bracket = record { cap = 1000000; floor = 0; risk = 1000000; hope = 0; visits = 0; delay = None }

abbrev pub first_sheet : Sheet
first_sheet = record { bracket = first_bracket; taken = 0; passed = 0 }

-- the better of what stood and what came
abbrev pub lower_cap : ℕ → Bracket → Bracket
lower_cap b k =
    record {
      cap = min k.cap b;
      floor = k.floor;
      risk = k.risk;
      hope = k.hope;
      visits = k.visits;
      delay = k.delay;
    }

abbrev pub higher_floor : ℕ → Bracket → Bracket
higher_floor b k =
    record {
      cap = k.cap;
      floor = max k.floor b;
      risk = k.risk;
      hope = k.hope;
      visits = k.visits;
      delay = k.delay;
    }

abbrev pub given_delay : ℕ → Bracket → Bracket
given_delay b k =
    record {
      cap = k.cap;
      floor = k.floor;
      risk = k.risk;
      hope = k.hope;
      visits = k.visits;
      delay = Some b;
    }

abbrev pub lower_risk : ℕ → Bracket → Bracket
lower_risk b k =
    record {
      cap = k.cap;
      floor = k.floor;
      risk = min k.risk b;
      hope = k.hope;
      visits = k.visits;
      delay = k.delay;
    }

-- a higher hope, or an equal one with fewer visits
abbrev pub better_hope : ℕ → ℕ → Bracket → Bool
better_hope b v k = cond (nat_lt k.hope b) true (cond (k.hope == b) (nat_lt v k.visits) false)

abbrev pub with_hope : ℕ → ℕ → Bracket → Bracket
with_hope b v k =
    record {
      cap = k.cap;
      floor = k.floor;
      risk = k.risk;
      hope = b;
      visits = v;
      delay = k.delay;
    }

abbrev pub higher_hope : ℕ → ℕ → Bracket → Bracket
higher_hope b v k = cond (better_hope b v k) (with_hope b v k) k

-- a chance above certainty is refused with 45
abbrev pub asked : ℕ → Decision → Result Decision Telling
asked l answer = cond (nat_le l 1000000) (Ok answer) (Err (at_register 45 0))

-- yes where a bound says that it holds, else no where one says that it fails
abbrev pub decision : Bool → Bool → Decision
decision holds fails = cond holds Yes (cond fails No Undecided)

-- every order at least l: yes by the floor, no by the risk
abbrev pub least_decision : Bracket → ℕ → Decision
least_decision k l = decision (nat_le l k.floor) (nat_lt k.risk l)

-- every order at most l: yes by the cap, no by the hope
abbrev pub most_decision : Bracket → ℕ → Decision
most_decision k l = decision (nat_le k.cap l) (nat_lt l k.hope)
