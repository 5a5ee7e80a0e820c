use Rattle.std.proofs.Common.{◌≡◌, ◌-◌, ◌*◌, ◌^◌, sym, refl, ap, ◌∙◌, arith, rules}
use Rattle.process.specs.Means.{mean, worth}
use Rattle.encoding.specs.Reading.{process_read}
use Rattle.table.specs.View.{lists_of}
use Rattle.table.specs.Laws.{formed_table}
use Rattle.lookahead.specs.Sides.{outlook}
use Rattle.lookahead.proofs.Limits.{whole_fits, power_fits}
use Rattle.lookahead.proofs.Picks.{picked_first, picked_more, picked_all}
use Rattle.lookahead.proofs.turns.+chance_choice.Goals as goal
use Rattle.lookahead.proofs.turns.+chance_choice.Goals.{chance-in-State, chance-in-End-Target, chance-in-End-Exit}

pub chance-pow-certain-requires : goal.chance-pow-certain-requires
chance-pow-certain-requires t c = power_fits c.args.depth (omega arith)

pub choice-loop-option-init : goal.choice-loop-option-init
choice-loop-option-init t c =
    let p = process_read (lists_of c.args.table.now) in
    picked_first c.args.side 1000 p (c.args.depth - 1) c.args.state c.chance-hits.result c.chance-hits.ensures

pub choice-loop-option-preserved : goal.choice-loop-option-preserved
choice-loop-option-preserved t c =
    let p = process_read (lists_of c.args.table.now) in
    picked_more c.args.side 1000 p (c.args.depth - 1) c.args.state c.loop-option.option c.loop-option.hits
    c.chance-next.result c.keep-hits.result (omega arith) (omega arith) c.loop-option.invariant c.chance-next.ensures
    c.keep-hits.ensures

pub choice-returns : goal.choice-returns
choice-returns t c =
    let p = process_read (lists_of c.args.table.now) in
    picked_all c.args.side 1000 p (c.args.depth - 1) c.args.state c.loop-option.option c.loop-option.hits
    c.args.depth (omega arith) (omega arith) c.loop-option.invariant

pub chance-overflow_add-sum : goal.chance-overflow_add-sum
chance-overflow_add-sum t c =
    let p = process_read (lists_of c.args.table.now) in
    let from = outlook c.args.side 1000 p c.args.depth in
    let f = worth from (1000 ^ c.args.depth) in
    let hits : c.match-step.hits ≡ f c.in-Some.step.place =
    elim c.match-step.branch [
      | chance-in-State w ↦
          let next : w.choice-hits.result ≡ from w.in-State.next = w.choice-hits.ensures in
          w.hits-is ∙ (next ∙ sym (ap f w.in-State.is))
      | chance-in-End-Target w ↦ search rules
      | chance-in-End-Exit w ↦ search rules
    ] in
    let term : c.from.result * c.match-step.hits ≡ c.in-Some.step.weight * f c.in-Some.step.place =
    rw (c.from.ensures, hits) refl in
    omega (
      arith,
      term,
      ap (mean f) c.in-Some.ensures.steps,
      c.loop-step.invariant,
      whole_fits p (formed_table c.args.table.now) c.args.side c.args.depth c.args.state c.args.option c.requires,
    )

pub chance-overflow_mul-sum : goal.chance-overflow_mul-sum
chance-overflow_mul-sum t c = omega (arith, chance-overflow_add-sum t c)
