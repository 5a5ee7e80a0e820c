use Rattle.std.proofs.Common.{◌-◌, eqb, get_or, take, ap, ◌∙◌, arith}
use Rattle.std.proofs.lemmas.List.{take_all, length-set}
use Rattle.part.specs.Marks.{set_of, marked}
use Rattle.part.proofs.Filled.{marked_set, flags_more}
use Rattle.part.proofs.flags.Goals as goal

pub loop-i-preserved : goal.loop-i-preserved
loop-i-preserved c = (
  flags_more c.args.marks.now c.loop-i.set c.loop-i.i 4096 (omega arith) c.requires c.loop-i.invariant.0,
  length-set c.loop-i.set c.loop-i.i (eqb (get_or c.args.marks.now c.loop-i.i 0) 1) ∙ c.loop-i.invariant.1,
)

pub returns : goal.returns
returns c =
    ap set_of c.loop-i.invariant.0
    ∙ (marked_set (take c.loop-i.i c.args.marks.now) (4096 - c.loop-i.i)
    ∙ ap marked (take_all c.loop-i.i c.args.marks.now (omega arith)))
