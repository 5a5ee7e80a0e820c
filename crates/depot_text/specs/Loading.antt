-- What loading a depot text of scale d answers, its first line having a number, and what it leaves in the lent lists.
use Rattle.std.specs.Prelude.{ℕ, ◌+◌, ◌-◌, ◌*◌, ◌/◌, min, Bool, cond, List, [], ◌∷◌, length, is_ok, Ok, Err, Result, slice_set}
use Rattle.refusal.specs.Tellings.{Telling, at_text}
use Rattle.process.specs.declared.size.Size.{Size}
use Rattle.process.specs.declared.place.End.TheVariants.{Target, Exit}
use Rattle.process.specs.declared.place.Place.{Place}
use Rattle.process.specs.declared.place.Place.TheVariants as place
use Rattle.encoding.specs.Lists.{Lists, lists}
use Rattle.encoding.specs.Writing.{place_number}
use Rattle.lines.specs.Lines.{Said, parsed}
use Rattle.passes.specs.Texts.{lines}
use Rattle.passes.specs.Passes.{then, on_said, pass, filled}
use Rattle.depot_text.specs.declared.item.Spelled.{Spelled}
use Rattle.depot_text.specs.declared.item.Spelled.TheVariants as spelled
use Rattle.depot_text.specs.declared.progress.Phase.{Phase}
use Rattle.depot_text.specs.declared.progress.Phase.TheVariants as phase
use Rattle.depot_text.specs.declared.progress.Rules.{Rules}
use Rattle.depot_text.specs.declared.progress.Progress.{Progress}
use Rattle.depot_text.specs.declared.progress.Depot.{Depot}
use Rattle.depot_text.specs.Items.{item_of}
use Rattle.depot_text.specs.Machine.{at_end, on_item, start}

-- the place that a spelling means
abbrev pub place_of : Spelled → Place
place_of (spelled.State k) = place.State k
place_of spelled.Target = place.End Target
place_of spelled.Exit = place.End Exit

abbrev pub depot : Rules → Progress → Depot
depot r s = record { rules = r; progress = s }

abbrev pub onto : Rules → Result Progress Telling → Result Depot Telling
onto r (Ok s) = Ok (depot r s)
onto r (Err e) = Err e

abbrev pub next : Depot → ℕ → Said → Result Depot Telling
next m at x = onto m.rules (on_item m.rules m.progress at (item_of x))

abbrev pub ended : Depot → Bool
ended m = at_end m.progress.phase

-- what the line read last puts into the lists
abbrev pub put_at : Phase → Progress → Lists → Lists
put_at phase.Start s l = l
put_at phase.Kind s l = l
put_at phase.States s l = l
put_at phase.State s l = lists (slice_set l.option_starts (s.begun - 1) s.options) l.move_starts l.moves
put_at (phase.Choice k) s l = lists l.option_starts (slice_set l.move_starts (s.options - 1) s.moves) l.moves
put_at (phase.To p k) s l = l
put_at (phase.Weight p w k) s l =
    lists l.option_starts l.move_starts
    (slice_set (slice_set l.moves (2 * (s.moves - 1)) (place_number (place_of p))) (2 * (s.moves - 1) + 1) w)
put_at phase.End s l =
    lists (slice_set l.option_starts s.begun s.options) (slice_set l.move_starts s.options s.moves) l.moves

abbrev pub puts : Depot → Lists → Lists
puts m l = put_at m.progress.phase m.progress l

-- the limits, and what the lent lists hold
abbrev pub rules_of : ℕ → Lists → Rules
rules_of d l =
    record {
      scale = d;
      states = min (length l.option_starts - 1) 4096;
      options = min (length l.move_starts - 1) 16384;
      moves = min (length l.moves / 2) 65536;
    }

abbrev pub beginning : ℕ → Lists → Depot
beginning d l = depot (rules_of d l) start

-- a line after the end may not come
abbrev pub nothing_after : Depot → ℕ → List (List ℕ) → Result Depot Telling
nothing_after m at [] = Ok m
nothing_after m at (l ∷ ls) = on_said (λ m at x. Err (at_text 12 at)) m at (parsed l)

abbrev pub size : Depot → Size
size m = record { states = m.progress.states; options = m.progress.options; moves = m.progress.moves }

abbrev pub sized : Result Depot Telling → Result Size Telling
sized (Ok m) = Ok (size m)
sized (Err e) = Err e

abbrev pub read : ℕ → ℕ → List ℕ → Lists → Result Depot Telling
read d first t l =
    then (pass next ended (beginning d l) first (lines t)) (λ h. nothing_after h.state h.at h.rest)

abbrev pub answer : ℕ → ℕ → List ℕ → Lists → Result Size Telling
answer d first t l = sized (read d first t l)

-- the whole text is checked before anything is written
abbrev pub left : ℕ → ℕ → List ℕ → Lists → Lists
left d first t l = cond (is_ok (read d first t l)) (filled next ended puts (beginning d l) first (lines t) l) l
