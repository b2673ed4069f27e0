use Rattle.std.proofs.Common.{Err, Ok, ap, sym, refl}
use Rattle.std.proofs.lemmas.Result.{err_from_is_err_and}
use Rattle.mr_plan.specs.Checks.{first_fault, sound_unless}
use Rattle.mr_plan.specs.Plans.{PlanParts}
use Rattle.mr_plan.specs.Readings.{read_plan}
use Rattle.mr_choices.specs.Handed.{sound_given, or_plan_line, or_wrong}
use Rattle.mr_steps.specs.Refusals.{followed_by}
use Rattle.mr_steps.specs.declared.fault.Fault.TheVariants.{BadPlan}
use Rattle.mr_steps.proofs.Chains.{gives_err, gives_then}
use Rattle.mr_choices.proofs.handed.sound_plan.Goals as goal

pub returns-in_err-plan-clause-given : goal.returns-in_err-plan-clause-given
unfolding sound_given
returns-in_err-plan-clause-given c =
    let p = err_from_is_err_and c.from_residual.result c.from_residual.ensures.1 in
    rw (p.1, p.2) (gives_err (λ (plan : PlanParts). plan) (λ (plan : PlanParts). plan) _ (or_plan_line (read_plan c.args.bytes.now))
    (λ plan. followed_by (or_wrong (sound_unless (first_fault c.args.matrix.now c.args.targets plan))) (λ _. Ok plan))
    (λ _. ap or_plan_line (sym c.in_err-plan.ensures.value)))

pub returns-in_err-check-clause-given : goal.returns-in_err-check-clause-given
unfolding sound_given
returns-in_err-check-clause-given c =
    let p = err_from_is_err_and c.from_residual-in_err-check.result c.from_residual-in_err-check.ensures.1 in
    rw (p.1, p.2) (gives_then (λ (plan : PlanParts). plan) (λ (plan : PlanParts). plan) c.in_ok-plan.plan (Err (BadPlan c.in_err-check.field-0.0.symbol c.in_err-check.field-0.0.why)) (or_plan_line (read_plan c.args.bytes.now))
    (λ plan. followed_by (or_wrong (sound_unless (first_fault c.args.matrix.now c.args.targets plan))) (λ _. Ok plan))
    (ap or_plan_line (sym c.in_ok-plan.ensures.value))
    (gives_err (λ (sound : Unit {0}). sound) (λ (plan : PlanParts). plan) _ (or_wrong (sound_unless (first_fault c.args.matrix.now c.args.targets c.in_ok-plan.plan)))
    (λ _. Ok c.in_ok-plan.plan) (λ _. ap or_wrong (sym c.in_err-check.ensures.first))))

pub returns-clause-given : goal.returns-clause-given
unfolding sound_given
returns-clause-given c = gives_then (λ (plan : PlanParts). plan) (λ (plan : PlanParts). plan) c.in_ok-plan.plan (Ok c.in_ok-plan.plan) (or_plan_line (read_plan c.args.bytes.now))
    (λ plan. followed_by (or_wrong (sound_unless (first_fault c.args.matrix.now c.args.targets plan))) (λ _. Ok plan))
    (ap or_plan_line (sym c.in_ok-plan.ensures.value))
    (gives_then (λ (sound : Unit {0}). sound) (λ (plan : PlanParts). plan) c.in_ok-check.field-0 (Ok c.in_ok-plan.plan) (or_wrong (sound_unless (first_fault c.args.matrix.now c.args.targets c.in_ok-plan.plan)))
    (λ _. Ok c.in_ok-plan.plan) (ap or_wrong (sym c.in_ok-check.ensures.first))
    refl)
