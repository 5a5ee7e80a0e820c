use Rattle.std.proofs.Common.{rules, length, not, sym, ◌∙◌, arith}
use borrow.Author.Tests.{tests}
use Rattle.std.proofs.lemmas.Iterator.{YieldsList-from_range}
use Rattle.std.proofs.lemmas.Iterator.Adapters.{option_map_id}
use Rattle.std.proofs.lemmas.Iterator.Search.{find_from_yields_List}
use Rattle.kinds.specs.FlowKinds.{state_holds}
use Rattle.flows.proofs.Flowing.{found_is_bad}
use Rattle.flows.proofs.amounts.Amounts.first_unbalanced.Goals as goal

pub returns : goal.returns
returns g c =
    let y = c.args.self.now in
    let p = g.M.Model.meaning y.model.now in
    let ok = state_holds y.kind g.M.Model.scale p y.entries.now in
    sym (option_map_id c.find.result)
    ∙ find_from_yields_List (λ s. not (ok s)) _ _ c.find.result c.find.ensures.ran
    (YieldsList-from_range 0 c.states.result (length p) (cc) (omega arith)) (λ x b q k. search (rules, tests))
    ∙ found_is_bad ok 0 (length p)
