-- Which lines may follow each other in a vector text, and what each does.
use Rattle.std.specs.Prelude.{ℕ, ◌+◌, ◌-◌, Bool, true, false, cond, ◌&&◌, List, Some, None, Ok, Err, codes, Option, Result, nat_lt, slice_set}
use Rattle.std.specs.Str.{bytes_eq}
use Rattle.refusal.specs.Tellings.{Telling, at_text}
use Rattle.encoding.specs.Lists.{Lists, lists}
use Rattle.lines.specs.Lines.{Said, says_word, says_number}
use Rattle.passes.specs.Passes.{then, demand}
use Rattle.vector_text.specs.declared.format.Kind.{Kind}
use Rattle.vector_text.specs.declared.item.Item.{Item}
use Rattle.vector_text.specs.declared.item.Item.TheVariants as item
use Rattle.vector_text.specs.declared.format.Phase.{Phase}
use Rattle.vector_text.specs.declared.format.Phase.TheVariants as phase
use Rattle.vector_text.specs.declared.format.Vector.{Vector}
use Rattle.vector_text.specs.Words.{kind_named}

abbrev pub vector_of : Option Kind → Item
vector_of None = item.Other
vector_of (Some k) = item.Vector k

-- what a line means in a vector text
abbrev pub word_item : List ℕ → List ℕ → Item
word_item key v =
    cond (bytes_eq key (codes "end") && bytes_eq v (codes "vector")) item.End
    (cond (bytes_eq key (codes "vector")) (vector_of (kind_named v)) item.Other)

abbrev pub item_of : Said → Item
item_of (says_word key v) = word_item key v
item_of (says_number key v n) = cond (bytes_eq key (codes "entry")) (item.Entry n) item.Other

-- a phase and a number of entries, with the same room
abbrev pub in_phase : Vector → Phase → ℕ → Vector
in_phase v p count = record { phase = p; room = v.room; count = count }

abbrev pub at_start : Phase → Bool
at_start phase.Start = true
at_start (phase.Vector k) = false
at_start (phase.Entry k e) = false
at_start (phase.End k) = false

-- the kind of a vector that has begun and not ended
abbrev pub inside : Phase → ℕ → Result Kind Telling
inside phase.Start at = Err (at_text 12 at)
inside (phase.Vector k) at = Ok k
inside (phase.Entry k e) at = Ok k
inside (phase.End k) at = Err (at_text 12 at)

abbrev pub on_vector : Vector → ℕ → Kind → Result Vector Telling
on_vector v at k = demand (at_start v.phase) 12 at (Ok (in_phase v (phase.Vector k) v.count))

abbrev pub on_entry : Vector → ℕ → ℕ → Result Vector Telling
on_entry v at e =
    then (inside v.phase at)
    (λ k. demand (nat_lt v.count v.room) 14 at (Ok (in_phase v (phase.Entry k e) (v.count + 1))))

abbrev pub on_end : Vector → ℕ → Result Vector Telling
on_end v at = then (inside v.phase at) (λ k. Ok (in_phase v (phase.End k) v.count))

abbrev pub on_item : Vector → ℕ → Item → Result Vector Telling
on_item v at (item.Vector k) = on_vector v at k
on_item v at (item.Entry e) = on_entry v at e
on_item v at item.End = on_end v at
on_item v at item.Other = Err (at_text 12 at)

abbrev pub next : Vector → ℕ → Said → Result Vector Telling
next v at x = on_item v at (item_of x)

abbrev pub has_ended : Phase → Bool
has_ended phase.Start = false
has_ended (phase.Vector k) = false
has_ended (phase.Entry k e) = false
has_ended (phase.End k) = true

abbrev pub ended : Vector → Bool
ended v = has_ended v.phase

-- what the line read last puts into the list
abbrev pub put_at : Phase → Vector → Lists → Lists
put_at phase.Start v l = l
put_at (phase.Vector k) v l = l
put_at (phase.Entry k e) v l = lists l.option_starts l.move_starts (slice_set l.moves (v.count - 1) e)
put_at (phase.End k) v l = l

abbrev pub puts : Vector → Lists → Lists
puts v l = put_at v.phase v l
