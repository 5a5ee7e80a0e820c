use Rattle.std.proofs.Common.{◌-◌, length, take, arith}
use Rattle.std.proofs.lemmas.Bool.Decides.{nat_tests}
use Rattle.depot_text.proofs.Parting.{Parted, part_found, part_none}
use Rattle.depot_text.proofs.splitting.split_input.Goals as goal
use Rattle.depot_text.proofs.splitting.split_input.Goals.{After-rest}

-- the line that was cut off ends the depot
ends : (c : After-rest) → Parted c.args.input.now (take (length c.args.input.now - length c.in-Some.after.rest.now) c.args.input.now) c.in-Some.after.rest.now c.in-Some.after.at
ends c =
    let cut = c.in-Some.ensures in
    part_found _ _ _ c.loop-line.invariant.0 _ _ _ cut.less cut.first cut.after cut.next (cc)

pub returns-then-eq-clause-depot : goal.returns-then-eq-clause-depot
returns-then-eq-clause-depot c = let e = (ends c).depot in let r = c.rest.ensures in cc

pub returns-then-eq-clause-lines : goal.returns-then-eq-clause-lines
returns-then-eq-clause-lines c = (ends c).count

pub returns-then-eq-clause-rest : goal.returns-then-eq-clause-rest
returns-then-eq-clause-rest c = (ends c).rest

pub returns-clause-depot : goal.returns-clause-depot
returns-clause-depot c = (part_none _ _ _ c.loop-line.invariant.0 (grind (arith, nat_tests))).depot
