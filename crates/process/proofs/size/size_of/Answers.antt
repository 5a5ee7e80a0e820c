use Rattle.std.proofs.Common.{[], length, ◌∙◌, arith, rules}
use Rattle.process.specs.Process.{joined}
use Rattle.process.proofs.Joined.{sum_lengths_twice}
use Rattle.process.proofs.Chains.{chain_fits, chain_sum}
use Rattle.process.proofs.size.size_of.Goals as goal

pub sum-moves-requires-clause-fits : goal.sum-moves-requires-clause-fits
sum-moves-requires-clause-fits g c =
    let p = g.M.Model.meaning c.args.model.now in
    let f = g.met.M.Model.formed c.args.model.now c.requires in
    chain_fits (λ os. length (joined os)) p [] c.states-states.result c.states-states.ensures
    (omega (arith, sum_lengths_twice p, f.move_limit)) c.map.ensures.source c.map.ensures.closure
    (λ x r q k. search rules)

pub returns-clause-moves : goal.returns-clause-moves
returns-clause-moves g c =
    let p = g.M.Model.meaning c.args.model.now in
    chain_sum (λ os. length (joined os)) p [] c.states-states.result c.states-states.ensures c.sum-moves.result
    c.sum-moves.ensures.ran c.map.ensures.source c.map.ensures.closure (λ x r q k. search rules)
    ∙ sum_lengths_twice p
