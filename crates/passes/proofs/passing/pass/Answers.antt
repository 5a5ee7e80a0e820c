-- The pass over, refused, or gone on by one line.
use Rattle.std.proofs.Common.{sym, arith}
use Rattle.std.proofs.lemmas.Result.{err_from_is_err_and}
use Rattle.encoding.specs.Lists.{lists as lists_of}
use Rattle.passes.specs.View.{view}
use Rattle.passes.proofs.Turns.{sets_out, goes_on, stops, has_moved, is_over}
use Rattle.passes.proofs.passing.pass.Goals as goal

pub loop-passed-init : goal.loop-passed-init
loop-passed-init g c =
    sets_out g.A.Automaton.next g.A.Automaton.ended g.A.Automaton.puts c.args.text.at c.args.text.rest.now
    c.args.start (view c.args.lists)

pub loop-passed-preserved : goal.loop-passed-preserved
loop-passed-preserved g c =
    let l = c.loop-passed in
    let told = c.in_ok-passed.ensures in
    goes_on g.A.Automaton.next g.A.Automaton.ended g.A.Automaton.puts c.args.text.at c.args.text.rest.now
    c.args.start (view c.args.lists) l.passed.state l.passed.text.at l.passed.text.rest.now (lists_of l.options l.starts l.moves)
    l.invariant _ _ _ _ (sym c.loop-passed-test.ensures) told.answer told.less told.next c.put.ensures

pub returns-in_err-passed : goal.returns-in_err-passed
returns-in_err-passed g c =
    let p = err_from_is_err_and c.from_residual.result c.from_residual.ensures.1 in
    let l = c.loop-passed in
    let e =
    stops g.A.Automaton.next g.A.Automaton.ended g.A.Automaton.puts c.args.text.at c.args.text.rest.now
    c.args.start (view c.args.lists) l.passed.state l.passed.text.at l.passed.text.rest.now (lists_of l.options l.starts l.moves)
    l.invariant _ (sym c.loop-passed-test.ensures) c.in_err-passed.ensures.answer in
    rw (p.1, p.2) (record { answer = e.0; moved = tt; near = tt; lists = e.1 })

pub returns : goal.returns
returns g c =
    let l = c.loop-passed in
    let e =
    is_over g.A.Automaton.next g.A.Automaton.ended g.A.Automaton.puts c.args.text.at c.args.text.rest.now
    c.args.start (view c.args.lists) l.passed.state l.passed.text.at l.passed.text.rest.now (lists_of l.options l.starts l.moves)
    l.invariant (sym c.loop-passed-test.ensures) in
    let moved =
    has_moved g.A.Automaton.next g.A.Automaton.ended g.A.Automaton.puts c.args.text.at c.args.text.rest.now
    c.args.start (view c.args.lists) l.passed.state l.passed.text.at l.passed.text.rest.now (lists_of l.options l.starts l.moves)
    l.invariant (sym c.loop-passed-test.ensures) in
    record { answer = e.0; moved = moved; near = omega (arith, l.invariant.count); lists = e.1 }
