use Rattle.std.proofs.Common.{rules, ◌≡◌, Ok, Err, Result}
use Rattle.refusal.specs.declared.reason.Refusal.{Refusal}
use Rattle.refusal.specs.declared.reason.Refusal.TheVariants.{VectorEntry, VectorInequality}
use Rattle.refusal.specs.Tellings.{told}
use Rattle.flows.specs.declared.flow.Flow.{Flow}
use Rattle.flows.specs.Verdicts.{flow_of, judgement}
use Rattle.flows.proofs.Accepting.{judgement_decides, judgement_names}
use Rattle.flows.proofs.amounts.Amounts.judge.Goals as goal

pub returns-in-Some : goal.returns-in-Some
returns-in-Some g c =
    let y = c.args.self.now in
    let p = g.M.Model.meaning y.model.now in
    let r : Result Flow Refusal = Err (VectorEntry c.in-Some.index) in
    let e : told r ≡ judgement y.kind g.M.Model.scale p y.entries.now = search rules in
    record {
      answer = search rules;
      tally = search rules;
      accepts = judgement_decides y.kind g.M.Model.scale p y.entries.now r e y.one_each (search rules);
      first = judgement_names y.kind g.M.Model.scale p y.entries.now r e;
    }

pub returns-in-Some-first_unbalanced : goal.returns-in-Some-first_unbalanced
returns-in-Some-first_unbalanced g c =
    let y = c.args.self.now in
    let p = g.M.Model.meaning y.model.now in
    let r : Result Flow Refusal = Err (VectorInequality c.in-Some-first_unbalanced.state) in
    let e : told r ≡ judgement y.kind g.M.Model.scale p y.entries.now = search rules in
    record {
      answer = search rules;
      tally = search rules;
      accepts = judgement_decides y.kind g.M.Model.scale p y.entries.now r e y.one_each (search rules);
      first = judgement_names y.kind g.M.Model.scale p y.entries.now r e;
    }

pub returns-clause-accepts : goal.returns-clause-accepts
returns-clause-accepts g c =
    let y = c.args.self.now in
    let p = g.M.Model.meaning y.model.now in
    let r : Result Flow Refusal = Ok (flow_of p y.entries.now) in
    let e : told r ≡ judgement y.kind g.M.Model.scale p y.entries.now = search rules in
    judgement_decides y.kind g.M.Model.scale p y.entries.now r e y.one_each (search rules)
