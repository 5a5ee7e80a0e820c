use Rattle.std.proofs.Common.{◌≡◌, ◌+◌, ◌-◌, ◌*◌}
use Rattle.process.specs.Queries.{moves_of}
use Rattle.process.specs.Steps.{moves_left}
use Rattle.encoding.specs.Reading.{process_read}
use Rattle.table.specs.View.{lists_of}
use Rattle.lookahead.specs.Sides.{mean_outlook}
use Rattle.lookahead.proofs.Picks.{Picked}
use Rattle.lookahead.proofs.turns.+chance_choice.Given as goal

-- `choice` calls `chance` at one depth less, and `chance` calls `choice` at the same depth
abbrev pub decreases-chance : goal.decreases-chance
decreases-chance l = 2 * l.depth + 1

abbrev pub decreases-choice : goal.decreases-choice
decreases-choice l = 2 * l.depth

abbrev pub invariant-choice-loop-option : goal.invariant-choice-loop-option
invariant-choice-loop-option l =
    Picked l.side 1000 (process_read (lists_of l.table)) (l.depth - 1) l.state l.option l.hits

abbrev pub invariant-chance-loop-step : goal.invariant-chance-loop-step
invariant-chance-loop-step l =
    let p = process_read (lists_of l.table) in
    let hits = mean_outlook l.side 1000 p l.depth in
    l.sum + hits (moves_left (λ t. process_read (lists_of t)) l.step-iterator) ≡ hits (moves_of p l.state l.option)
