use Rattle.std.proofs.Common.{ℕ, ◌<◌, ◌≤◌, [], length, get_or, rules}
use borrow.Author.Tests.{tests}
use Rattle.std.proofs.lemmas.Iterator.{first_from_Range}
use Rattle.std.proofs.lemmas.Bool.{le-leb, lt-leb}
use Rattle.process.specs.Process.{joined}
use Rattle.encoding.specs.Reading.{process_read}
use Rattle.table.specs.View.{lists_of}
use Rattle.lookahead.specs.Answers.{narrow}
use Rattle.lookahead.proofs.Firsts.{first_found}
use Rattle.lookahead.proofs.reach.first_crowded.Goals as goal

pub returns : goal.returns
returns c =
    let p = process_read (lists_of c.args.table.now) in
    let moves : ℕ → ℕ = λ s. length (joined (get_or p s [])) in
    first_found narrow p [] (λ s. 16 < moves s) (λ s. moves s ≤ 16) (λ s h. lt-leb _ _ h) (λ s h. le-leb _ _ h)
    c.states.result c.states.ensures c.find.result
    (first_from_Range _ _ _ c.find.result (λ s. 16 < moves s) (λ s. moves s ≤ 16) c.find.ensures.ran
    (λ x q k. search (rules, tests)) (λ x q k. search (rules, tests)))
