use Rattle.std.proofs.Common.{[], length, get_or, ◌∙◌, arith, rules}
use Rattle.process.proofs.Joined.{sum_lengths, length-joined-at}
use Rattle.process.proofs.Chains.{chain_fits, chain_sum}
use Rattle.process.proofs.size.move_count.Goals as goal

pub sum-requires-clause-fits : goal.sum-requires-clause-fits
sum-requires-clause-fits g c =
    let p = g.M.Model.meaning c.args.model.now in
    let os = get_or p c.args.state [] in
    let f = g.met.M.Model.formed c.args.model.now c.requires in
    chain_fits length os [] c.option_count.result c.option_count.ensures
    (omega (arith, sum_lengths os, length-joined-at p c.args.state, f.move_limit)) c.map.ensures.source
    c.map.ensures.closure (λ x r q k. search rules)

pub returns : goal.returns
returns g c =
    let os = get_or (g.M.Model.meaning c.args.model.now) c.args.state [] in
    chain_sum length os [] c.option_count.result c.option_count.ensures c.sum.result c.sum.ensures.ran
    c.map.ensures.source c.map.ensures.closure (λ x r q k. search rules)
    ∙ sum_lengths os
