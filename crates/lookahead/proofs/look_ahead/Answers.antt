use Rattle.std.proofs.Common.{◌≡◌, ℕ, ◌≤◌, leb, Some, None, Ok, sym, arith}
use Rattle.std.proofs.lemmas.Bool.{le-leb, cond-true}
use Rattle.refusal.specs.Tellings.{at_look_ahead}
use Rattle.refusal.specs.Tests.{unless}
use Rattle.refusal.proofs.Tests.{ok_unless}
use Rattle.process.specs.Process.{Process}
use Rattle.encoding.specs.Reading.{process_read}
use Rattle.table.specs.View.{lists_of}
use Rattle.table.specs.Laws.{formed_table}
use Rattle.bounds.specs.Extremes.{best, worst}
use Rattle.lookahead.specs.Answers.{too_deep, too_wide, extremes, answer}
use Rattle.lookahead.proofs.Orders.{over_all_orders}
use Rattle.lookahead.proofs.look_ahead.Goals as goal

answered : (d : ℕ) (p : Process) (k greatest least : ℕ) → k ≤ 6 → None ≡ too_wide p → greatest ≡ best d p k 0
    → least ≡ worst d p k 0 → Ok (record { greatest = greatest; least = least }) ≡ answer d p k
answered d p k greatest least deep wide g l =
    let next = unless (at_look_ahead 44) (too_wide p) (Ok (extremes d p k)) in
    let a = ok_unless (at_look_ahead 44) (too_deep k) next (cond-true (leb k 6) None (Some k) (le-leb k 6 deep)) in
    let b = ok_unless (at_look_ahead 44) (too_wide p) (Ok (extremes d p k)) (sym wide) in
    cc

pub returns : goal.returns
returns c =
    let p = process_read (lists_of c.args.table.now) in
    let formed = formed_table c.args.table.now in
    record {
      answer =
          answered 1000 p c.args.depth c.choice.result c.choice-2.result (omega arith) c.in_default.ensures
          c.choice.ensures c.choice-2.ensures;
      orders = λ h e. over_all_orders 1000 p formed c.args.depth h.greatest h.least (cc) (cc);
    }
