use Rattle.std.proofs.Common.{◌+◌, ◌≤◌, length}
use Rattle.depot_text.proofs.Parting.{Parting}
use Rattle.depot_text.proofs.splitting.split_input.Given as goal

abbrev pub invariant-loop-line : goal.invariant-loop-line
invariant-loop-line l =
    Parting l.input l.text.rest.now l.text.at × (l.text.at + length l.text.rest.now ≤ length l.input + 1)

abbrev pub decreases-loop-line : goal.decreases-loop-line
decreases-loop-line l = length l.text.rest.now
