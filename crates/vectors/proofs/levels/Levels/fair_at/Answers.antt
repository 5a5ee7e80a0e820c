use Rattle.std.proofs.Common.{length, arith}
use Rattle.process.specs.Queries.{moves_of}
use Rattle.bounds.proofs.Sums.{outlook_is}
use Rattle.kinds.specs.StateKinds.{reward_of}
use Rattle.vectors.proofs.levels.Levels.fair_at.Goals as goal

pub returns : goal.returns
returns g c =
    let l = c.args.self.now in
    let p = g.M.Model.meaning l.model.now in
    let same = outlook_is (length p) (reward_of l.kind) l.entries.now (omega arith) (moves_of p c.args.state c.args.option) in
    cc
