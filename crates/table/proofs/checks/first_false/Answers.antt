use Rattle.std.proofs.Common.{rules, refl, ◌∙◌}
use Rattle.std.proofs.Math.Bool.{not}
use Rattle.std.proofs.lemmas.Iterator.{YieldsList-from_slice}
use Rattle.std.proofs.lemmas.Iterator.Search.{position_from_yields_List}
use Rattle.refusal.proofs.Tests.{position_bad}
use Rattle.table.proofs.checks.first_false.Goals as goal

pub returns : goal.returns
returns g c =
    position_from_yields_List not _ _ _ c.position.ensures.ran (YieldsList-from_slice c.args.tests (cc)) (λ x b q k. search rules)
    ∙ position_bad not (λ t. t) (λ t. refl) c.args.tests
