use Rattle.std.proofs.Common.{◌+◌, [], length, drop, Some, subst, sym, ap, ◌∙◌, rules, arith, length-drop}
use Rattle.std.specs.Iterator.Adapters.{enumerate_count}
use Rattle.std.proofs.lemmas.Bool.{eq-eqb, ne_eqb}
use Rattle.std.proofs.lemmas.List.{drop-drop}
use Rattle.refusal.proofs.Tests.{Searched, search_on, search_found, search_ended}
use Rattle.encoding.specs.Reading.{moves_read, pieces}
use Rattle.encoding.specs.Answers.{sum_fits}
use Rattle.encoding.proofs.Pieces.{length-pieces, starts_say}
use Rattle.table.proofs.Turns.{window_at, piece_here}
use Rattle.table.proofs.checks.bad_sum.Goals as goal

pub weight_between-requires : goal.weight_between-requires
weight_between-requires c =
    let i = enumerate_count c.loop-option.option-iterator in
    let here = c.in-Some.ensures.steps.0.1 in
    let w = window_at c.args.starts.now _ c.in-Some.ends.now _ i c.loop-option.invariant.left c.loop-option.invariant.pairs here.0 here.1 in
    let s = starts_say c.args.starts.now _ c.requires.rise in
    let l = s.within (i + 1) w.0 in
    record {
      order = omega (arith, w.1, w.2, s.step i w.0);
      within = omega (arith, w.2, l);
      most = c.requires.most;
    }

pub returns-then-weight_between-from : goal.returns-then-weight_between-from
returns-then-weight_between-from c =
    let us = c.args.starts.now in
    let ms = moves_read c.args.moves.now in
    let i = enumerate_count c.loop-option.option-iterator in
    let here = c.in-Some.ensures.steps.0.1 in
    let w = window_at us _ c.in-Some.ends.now _ i c.loop-option.invariant.left c.loop-option.invariant.pairs here.0 here.1 in
    let sum = c.weight_between.ensures ∙ piece_here us c.in-Some.ends.now ms i w.0 w.1 w.2 in
    ap Some c.in-Some.ensures.steps.1
    ∙ search_found (sum_fits c.args.scale) (pieces us ms) i c.loop-option.invariant.so_far
    [] (omega (arith, length-pieces us ms, w.0))
    (ne_eqb _ _ (λ e. c.if-weight_between-from.true (sum ∙ (e ∙ sym c.from.ensures))))

pub loop-option-preserved : goal.loop-option-preserved
loop-option-preserved c =
    let us = c.args.starts.now in
    let ms = moves_read c.args.moves.now in
    let i = enumerate_count c.loop-option.option-iterator in
    let steps = c.in-Some.ensures.steps in
    let here = steps.0.1 in
    let w = window_at us _ c.in-Some.ends.now _ i c.loop-option.invariant.left c.loop-option.invariant.pairs here.0 here.1 in
    let sum = c.weight_between.ensures ∙ piece_here us c.in-Some.ends.now ms i w.0 w.1 w.2 in
    let on =
    search_on (sum_fits c.args.scale) (pieces us ms) i c.loop-option.invariant.so_far
    [] (omega (arith, length-pieces us ms, w.0))
    (eq-eqb _ _ (sym sum ∙ (c.if-weight_between-from.false ∙ c.from.ensures))) in
    record {
      can_next = search rules;
      is_finite = tt;
      pairs = steps.0.0 ∙ c.loop-option.invariant.pairs;
      left = here.2 ∙ (ap (drop 1) c.loop-option.invariant.left ∙ (drop-drop 1 i us ∙ ap (λ n. drop n us) (sym steps.2)));
      so_far = subst (Searched (sum_fits c.args.scale) (pieces us ms)) (sym steps.2) on;
    }

pub returns : goal.returns
returns c =
    let us = c.args.starts.now in
    let ms = moves_read c.args.moves.now in
    let i = enumerate_count c.loop-option.option-iterator in
    let short = c.in-None.ensures.steps.0.1.0 in
    let left = ap length c.loop-option.invariant.left in
    search_ended (sum_fits c.args.scale) (pieces us ms) i c.loop-option.invariant.so_far
    (omega (arith, length-pieces us ms, length-drop i us, left, short, c.loop-option.invariant.pairs))
