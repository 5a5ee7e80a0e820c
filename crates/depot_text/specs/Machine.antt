-- Which lines may follow each other in a depot text, and what each does.
use Rattle.std.specs.Prelude.{ℕ, ◌+◌, ◌-◌, Bool, true, false, cond, ◌&&◌, ◌||◌, Some, None, Ok, Err, Option, Result, ◌==◌, nat_le, nat_lt}
use Rattle.refusal.specs.Tellings.{Telling, at_text}
use Rattle.refusal.specs.Tests.{between}
use Rattle.passes.specs.Passes.{demand}
use Rattle.depot_text.specs.declared.item.Spelled.{Spelled}
use Rattle.depot_text.specs.declared.item.Spelled.TheVariants as spelled
use Rattle.depot_text.specs.declared.item.Item.{Item}
use Rattle.depot_text.specs.declared.item.Item.TheVariants as item
use Rattle.depot_text.specs.declared.progress.Phase.{Phase}
use Rattle.depot_text.specs.declared.progress.Phase.TheVariants as phase
use Rattle.depot_text.specs.declared.progress.Rules.{Rules}
use Rattle.depot_text.specs.declared.progress.Progress.{Progress}

abbrev pub phase_number : Phase → ℕ
phase_number phase.Start = 0
phase_number phase.Kind = 1
phase_number phase.States = 2
phase_number phase.State = 3
phase_number (phase.Choice k) = 4
phase_number (phase.To p k) = 5
phase_number (phase.Weight p w k) = 6
phase_number phase.End = 7

abbrev pub at_start : Phase → Bool
at_start p = phase_number p == 0

abbrev pub at_kind : Phase → Bool
at_kind p = phase_number p == 1

abbrev pub at_states : Phase → Bool
at_states p = phase_number p == 2

abbrev pub at_state : Phase → Bool
at_state p = phase_number p == 3

abbrev pub at_choice : Phase → Bool
at_choice p = phase_number p == 4

abbrev pub at_to : Phase → Bool
at_to p = phase_number p == 5

abbrev pub at_weight : Phase → Bool
at_weight p = phase_number p == 6

abbrev pub at_end : Phase → Bool
at_end p = phase_number p == 7

-- the place of the last move, and what the weights of the last option lack of the scale
abbrev pub place_at : Phase → Spelled
place_at (phase.To p k) = p
place_at (phase.Weight p w k) = p
place_at p = spelled.Exit

abbrev pub lacks_at : Phase → Option ℕ
lacks_at (phase.Choice k) = k
lacks_at (phase.To p k) = k
lacks_at (phase.Weight p w k) = k
lacks_at p = None

-- what is lacking after a weight, and whether nothing is
abbrev pub lacking : Option ℕ → ℕ → Option ℕ
lacking None w = None
lacking (Some rest) w = cond (nat_le w rest) (Some (rest - w)) None

abbrev pub made_up : Option ℕ → Bool
made_up None = false
made_up (Some rest) = rest == 0

-- the weights of the last option, if one is complete, make the scale
abbrev pub closed : Progress → Bool
closed s = cond (at_weight s.phase) (made_up (lacks_at s.phase)) true

abbrev pub exists : ℕ → Spelled → Bool
exists n (spelled.State k) = nat_lt k n
exists n spelled.Target = true
exists n spelled.Exit = true

-- the progress after each line
abbrev pub after_kind : Progress → Progress
after_kind s =
    record {
      phase = phase.Kind;
      states = s.states;
      begun = s.begun;
      before = s.before;
      options = s.options;
      moves = s.moves;
    }

abbrev pub after_states : Progress → ℕ → Progress
after_states s n =
    record {
      phase = phase.States;
      states = n;
      begun = s.begun;
      before = s.before;
      options = s.options;
      moves = s.moves;
    }

abbrev pub after_state : Progress → ℕ → Progress
after_state s k =
    record {
      phase = phase.State;
      states = s.states;
      begun = k + 1;
      before = s.options;
      options = s.options;
      moves = s.moves;
    }

abbrev pub after_choice : ℕ → Progress → Progress
after_choice d s =
    record {
      phase = phase.Choice (Some d);
      states = s.states;
      begun = s.begun;
      before = s.before;
      options = s.options + 1;
      moves = s.moves;
    }

abbrev pub after_to : Progress → Spelled → Progress
after_to s p =
    record {
      phase = phase.To p (lacks_at s.phase);
      states = s.states;
      begun = s.begun;
      before = s.before;
      options = s.options;
      moves = s.moves + 1;
    }

abbrev pub after_weight : Progress → ℕ → Progress
after_weight s w =
    record {
      phase = phase.Weight (place_at s.phase) w (lacking (lacks_at s.phase) w);
      states = s.states;
      begun = s.begun;
      before = s.before;
      options = s.options;
      moves = s.moves;
    }

abbrev pub after_end : Progress → Progress
after_end s =
    record {
      phase = phase.End;
      states = s.states;
      begun = s.begun;
      before = s.before;
      options = s.options;
      moves = s.moves;
    }

-- whether a line may come next
abbrev pub may_state : Progress → ℕ → Bool
may_state s k =
    (at_states s.phase || at_weight s.phase) && (k == s.begun && nat_lt k s.states)

abbrev pub may_choice : Progress → ℕ → Bool
may_choice s j =
    (at_state s.phase || at_weight s.phase) && j == s.options - s.before

abbrev pub may_to : Progress → Bool
may_to s = at_choice s.phase || at_weight s.phase

abbrev pub may_end : Progress → Bool
may_end s = at_weight s.phase && s.begun == s.states

abbrev pub on_kind : Progress → ℕ → Result Progress Telling
on_kind s at = demand (at_start s.phase) 12 at (Ok (after_kind s))

abbrev pub on_states : Rules → Progress → ℕ → ℕ → Result Progress Telling
on_states r s at n =
    demand (at_kind s.phase) 12 at
    (demand (between 1 4096 n) 13 at (demand (nat_le n r.states) 14 at (Ok (after_states s n))))

abbrev pub on_state : Progress → ℕ → ℕ → Result Progress Telling
on_state s at k = demand (may_state s k) 12 at (demand (closed s) 15 at (Ok (after_state s k)))

abbrev pub on_choice : Rules → Progress → ℕ → ℕ → Result Progress Telling
on_choice r s at j =
    demand (may_choice s j) 12 at
    (demand (nat_lt s.options r.options) 14 at (demand (closed s) 15 at (Ok (after_choice r.scale s))))

abbrev pub on_to : Rules → Progress → ℕ → Spelled → Result Progress Telling
on_to r s at p =
    demand (may_to s) 12 at
    (demand (exists s.states p) 13 at (demand (nat_lt s.moves r.moves) 14 at (Ok (after_to s p))))

abbrev pub on_weight : Rules → Progress → ℕ → ℕ → Result Progress Telling
on_weight r s at w =
    demand (at_to s.phase) 12 at (demand (nat_le w r.scale) 13 at (Ok (after_weight s w)))

abbrev pub on_end : Progress → ℕ → Result Progress Telling
on_end s at = demand (may_end s) 12 at (demand (closed s) 15 at (Ok (after_end s)))

abbrev pub on_item : Rules → Progress → ℕ → Item → Result Progress Telling
on_item r s at item.Kind = on_kind s at
on_item r s at (item.States n) = on_states r s at n
on_item r s at (item.State k) = on_state s at k
on_item r s at (item.Choice j) = on_choice r s at j
on_item r s at (item.To p) = on_to r s at p
on_item r s at (item.Weight w) = on_weight r s at w
on_item r s at item.End = on_end s at
on_item r s at item.Other = Err (at_text 12 at)

-- nothing read yet
abbrev pub start : Progress
start =
    record {
      phase = phase.Start;
      states = 0;
      begun = 0;
      before = 0;
      options = 0;
      moves = 0;
    }
