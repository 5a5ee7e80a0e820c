use Rattle.std.proofs.Common.{length, arith}
use Rattle.kinds.specs.StateKinds.{holds_at}
use Rattle.vectors.proofs.Searches.{search_out}
use Rattle.vectors.proofs.levels.Levels.first_unfair.Goals as goal

pub loop-state-preserved : goal.loop-state-preserved
loop-state-preserved g c =
    let l = c.args.self.now in
    let p = g.M.Model.meaning l.model.now in
    let ok = holds_at l.kind g.M.Model.scale (length p) l.entries.now in
    let out = search_out ok p c.loop-state.state c.loop-option.option (omega arith) (omega arith) in cc
