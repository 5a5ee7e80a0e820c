-- What reading a vector answers, its first line having a number, and what it leaves in the lent list.
use Rattle.std.specs.Prelude.{ℕ, cond, List, length, is_ok, Ok, Err, Result}
use Rattle.refusal.specs.Tellings.{Telling, at_text}
use Rattle.encoding.specs.Lists.{Lists}
use Rattle.passes.specs.Texts.{lines}
use Rattle.passes.specs.Passes.{Halt, then, pass, filled}
use Rattle.vector_text.specs.declared.format.Kind.{Kind}
use Rattle.vector_text.specs.declared.format.Phase.{Phase}
use Rattle.vector_text.specs.declared.format.Phase.TheVariants as phase
use Rattle.vector_text.specs.declared.format.Vector.{Vector}
use Rattle.vector_text.specs.declared.reading.Found.{Found}
use Rattle.vector_text.specs.Machine.{next, ended, puts}

-- nothing read yet, for a list of some length
abbrev pub beginning : ℕ → Vector
beginning room = record { phase = phase.Start; room = room; count = 0 }

-- a vector's kind, its number of entries, and the lines after it with the number of the first
pub record Header : Type 0 where
  pub kind : Kind
  pub count : ℕ
  pub at : ℕ
  pub rest : List (List ℕ)

-- what is told where a pass stands: a vector that has ended is whole, and any other ends early
abbrev pub header_in : Phase → Halt Vector → Result Header Telling
header_in phase.Start h = Err (at_text 12 h.at)
header_in (phase.Vector k) h = Err (at_text 12 h.at)
header_in (phase.Entry k e) h = Err (at_text 12 h.at)
header_in (phase.End k) h = Ok (record { kind = k; count = h.state.count; at = h.at; rest = h.rest })

abbrev pub header : Halt Vector → Result Header Telling
header h = header_in h.state.phase h

abbrev pub passed : ℕ → List ℕ → Lists → Result (Halt Vector) Telling
passed first t l = pass next ended (beginning (length l.moves)) first (lines t)

abbrev pub answer : ℕ → List ℕ → Lists → Result Header Telling
answer first t l = then (passed first t l) header

-- the whole vector is read before anything is written
abbrev pub left : ℕ → List ℕ → Lists → Lists
left first t l =
    cond (is_ok (passed first t l)) (filled next ended puts (beginning (length l.moves)) first (lines t) l) l

abbrev pub found : Found → Header
found x = record { kind = x.kind; count = x.count; at = x.text.at; rest = lines x.text.rest.now }
