use Rattle.std.proofs.Common.{sym, ap, ◌∙◌}
use Rattle.std.specs.Option.{option_map}
use Rattle.process.specs.declared.place.Span.{Span}
use Rattle.table.proofs.Found.{good, run_read}
use Rattle.table.proofs.queries.TableProcessModel.moves.Goals as goal

pub returns-in_err-run : goal.returns-in_err-run
returns-in_err-run c =
    c.from_residual.ensures
    ∙ (ap (option_map (λ (w : Span). w.count)) c.in_err-run.ensures.value
    ∙ sym (run_read 1000 _ (good c.args.self.now) c.args.state c.args.option))

pub returns : goal.returns
returns c =
    ap (option_map (λ (w : Span). w.count)) c.in_ok-run.ensures.value
    ∙ sym (run_read 1000 _ (good c.args.self.now) c.args.state c.args.option)
