use Rattle.std.proofs.Common.{◌+◌, ltb, Some, refl, sym, ap, ◌∙◌}
use Rattle.std.proofs.lemmas.Bool.{lt-ltb, le-ltb, cond-true, cond-false}
use Rattle.table.specs.Runs.{run_move}
use Rattle.table.proofs.Found.{good, move_found}
use Rattle.table.proofs.Turns.{pair_at}
use Rattle.table.proofs.queries.TableProcessModel.move_at.Goals as goal

pub returns-in_err-run : goal.returns-in_err-run
returns-in_err-run c =
    c.from_residual.ensures
    ∙ (ap (λ w. run_move c.args.self.now.lists.moves.now w c.args.index) c.in_err-run.ensures.value
    ∙ sym (move_found 1000 _ (good c.args.self.now) c.args.state c.args.option c.args.index))

pub returns-then-index-run : goal.returns-then-index-run
returns-then-index-run c =
    sym (cond-false (ltb c.args.index c.in_ok-run.run'.count) _ _ (le-ltb _ _ c.if-index-run.true))
    ∙ (ap (λ w. run_move c.args.self.now.lists.moves.now w c.args.index) c.in_ok-run.ensures.value
    ∙ sym (move_found 1000 _ (good c.args.self.now) c.args.state c.args.option c.args.index))

pub returns : goal.returns
returns c =
    ap Some (c.read_move.ensures ∙ pair_at c.args.self.now.lists.moves.now (c.in_ok-run.run'.first + c.args.index) _ refl)
    ∙ (sym (cond-true (ltb c.args.index c.in_ok-run.run'.count) _ _ (lt-ltb _ _ c.if-index-run.false))
    ∙ (ap (λ w. run_move c.args.self.now.lists.moves.now w c.args.index) c.in_ok-run.ensures.value
    ∙ sym (move_found 1000 _ (good c.args.self.now) c.args.state c.args.option c.args.index)))
