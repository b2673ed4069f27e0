use Rattle.std.proofs.Common.{Ok, Err, Some, ap, sym, ◌∙◌}
use Rattle.std.proofs.lemmas.Result.{err_from_is_err_and}
use Rattle.mr_eq.specs.Problems.{Loss}
use Rattle.mr_model.specs.Code.{cost}
use Rattle.mr_plan.specs.Plans.{PlanParts}
use Rattle.mr_steps.proofs.Chains.{gives_err, gives_named, gives_then}
use Rattle.mr_steps.specs.declared.choice_line.ChoiceLine.TheVariants.{Given as GivenLine}
use Rattle.mr_choices.specs.Handed.{sound_given}
use Rattle.mr_choices.specs.Handed.{as_given}
use Rattle.mr_choices.proofs.handed.handed_in.Goals as goal

pub returns-in_err-plan-clause-given : goal.returns-in_err-plan-clause-given
returns-in_err-plan-clause-given c =
    let p = err_from_is_err_and c.from_residual.result c.from_residual.ensures.1 in
    rw (p.1, p.2) (gives_err (λ (plan : PlanParts). plan) (λ handed. handed) _ (sound_given c.args.matrix.now c.args.problem.now.targets c.args.bytes.now)
    (λ plan. Ok (Some (as_given c.args.matrix.now plan)))
    (gives_named (λ (plan : PlanParts). plan) (Err c.in_err-plan.field-0.0) (λ targets. sound_given c.args.matrix.now targets c.args.bytes.now) c.targets.ensures.targets c.in_err-plan.ensures.given))

pub returns-clause-given : goal.returns-clause-given
returns-clause-given c =
    gives_then (λ (plan : PlanParts). plan) (λ handed. handed) c.in_ok-plan.plan
    (Ok (Some (record { plan = c.given.result; line = GivenLine c.cost.result }))) (sound_given c.args.matrix.now c.args.problem.now.targets c.args.bytes.now)
    (λ plan. Ok (Some (as_given c.args.matrix.now plan)))
    (gives_named (λ (plan : PlanParts). plan) (Ok c.in_ok-plan.plan) (λ targets. sound_given c.args.matrix.now targets c.args.bytes.now) c.targets.ensures.targets c.in_ok-plan.ensures.given)
    (λ j. Ok (Some (record {
      plan = sym c.given.ensures j;
      line = GivenLine (sym (c.cost.ensures.cost ∙ ap (λ (p : Loss). cost p.code c.set.result) c.requires.loss ∙ ap (cost c.args.matrix.now) c.set.ensures) j);
    })))
