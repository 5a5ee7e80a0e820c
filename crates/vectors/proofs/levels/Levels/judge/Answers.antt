use Rattle.std.proofs.Common.{rules, ◌≡◌, ℕ, get_or, Ok, Err, Result}
use Rattle.refusal.specs.declared.reason.Refusal.{Refusal}
use Rattle.refusal.specs.declared.reason.Refusal.TheVariants.{VectorEntry, VectorInequality}
use Rattle.refusal.specs.Tellings.{told}
use Rattle.vectors.specs.Verdicts.{judgement}
use Rattle.vectors.proofs.Accepting.{judgement_decides, judgement_names}
use Rattle.vectors.proofs.levels.Levels.judge.Goals as goal

pub returns-in-Some : goal.returns-in-Some
returns-in-Some g c =
    let l = c.args.self.now in
    let p = g.M.Model.meaning l.model.now in
    let r : Result ℕ Refusal = Err (VectorEntry c.in-Some.index) in
    let e : told r ≡ judgement l.kind g.M.Model.scale p l.entries.now = search rules in
    record {
      answer = e;
      accepts = judgement_decides l.kind g.M.Model.scale p l.entries.now r e l.level;
      first = judgement_names l.kind g.M.Model.scale p l.entries.now r e;
    }

pub returns-in-Some-first_unfair : goal.returns-in-Some-first_unfair
returns-in-Some-first_unfair g c =
    let l = c.args.self.now in
    let p = g.M.Model.meaning l.model.now in
    let r : Result ℕ Refusal = Err (VectorInequality c.in-Some-first_unfair.option) in
    let e : told r ≡ judgement l.kind g.M.Model.scale p l.entries.now = search rules in
    record {
      answer = e;
      accepts = judgement_decides l.kind g.M.Model.scale p l.entries.now r e l.level;
      first = judgement_names l.kind g.M.Model.scale p l.entries.now r e;
    }

pub returns-clause-accepts : goal.returns-clause-accepts
returns-clause-accepts g c =
    let l = c.args.self.now in
    let p = g.M.Model.meaning l.model.now in
    let r : Result ℕ Refusal = Ok (get_or l.entries.now 0 0) in
    judgement_decides l.kind g.M.Model.scale p l.entries.now r (search rules) l.level
