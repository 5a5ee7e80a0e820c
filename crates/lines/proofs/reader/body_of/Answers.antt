-- A body with a key is split at it.
use Rattle.std.proofs.Common.{◌+◌, take, drop, sym, ap, ◌∙◌}
use native.Mathlib.Nat.{sub-zero}
use Rattle.std.proofs.lemmas.List.{take_rest}
use Rattle.std.proofs.lemmas.Bool.{cond-true}
use Rattle.lines.specs.Lines.{valued, split}
use Rattle.lines.specs.View.{heard}
use Rattle.lines.proofs.reader.body_of.Goals as goal

pub returns : goal.returns
returns c =
    let at = c.args.at in
    let bs = c.args.body.now in
    let k = c.letters-k.result in
    let keyed = cond-true _ _ _ (sym c.if-not-is_keyed.ensures.value) in
    ◌∙◌ {b = heard at (valued (take k bs) (drop (k + 1) bs))} (simp (sub-zero, take_rest) at c.with_value.ensures)
    (ap (heard at) (sym keyed ∙ ap (λ j. split j bs) c.letters-k.ensures))
