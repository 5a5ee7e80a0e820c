-- The first line ends after its newline, or with the text.
use Rattle.std.proofs.Common.{◌+◌, take, drop, ap, ◌∙◌}
use Rattle.std.proofs.lemmas.List.{take_min, drop_min}
use Rattle.lines.proofs.reader.line_width.Goals as goal

pub returns-clause-first : goal.returns-clause-first
returns-clause-first c =
    let bs = c.args.s.now in
    let n = c.before_newline.result in
    ap (λ k. take k bs) c.min.ensures ∙ take_min (n + 1) bs ∙ ap (λ k. take (k + 1) bs) c.before_newline.ensures.count

pub returns-clause-after : goal.returns-clause-after
returns-clause-after c =
    let bs = c.args.s.now in
    let n = c.before_newline.result in
    ap (λ k. drop k bs) c.min.ensures ∙ drop_min (n + 1) bs ∙ ap (λ k. drop (k + 1) bs) c.before_newline.ensures.count
