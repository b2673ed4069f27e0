use Rattle.std.proofs.Common.{ap, sym, Ok, refl}
use Rattle.std.proofs.lemmas.Result.{err_from_is_err_and}
use Rattle.mr_eq.specs.Problems.{Loss}
use Rattle.mr_least.specs.Answer.{least_given, output_of}
use Rattle.mr_least.specs.Choice.{least_by}
use Rattle.mr_steps.specs.Losses.{targets_given}
use Rattle.mr_choices.specs.declared.chosen.ChosenPlan.{ChosenPlan}
use Rattle.mr_steps.proofs.Chains.{gives_err, gives_then}
use Rattle.mr_least.proofs.answering.plan_of.Goals as goal

pub returns-in_err-problem-clause-given : goal.returns-in_err-problem-clause-given
unfolding least_given
returns-in_err-problem-clause-given g c =
    let p = err_from_is_err_and c.from_residual.result c.from_residual.ensures.1 in
    rw (p.1, p.2) (gives_err (λ (problem : Loss). problem.targets) output_of _ (targets_given c.args.matrix.now c.args.lost.now)
    (λ targets. Ok (output_of (least_by c.args.matrix.now targets c.args.choosing.now.budget))) c.in_err-problem.ensures.given)

pub returns-in_err-chosen-clause-given : goal.returns-in_err-chosen-clause-given
returns-in_err-chosen-clause-given g c =
    let p = err_from_is_err_and c.from_residual-in_err-chosen.result c.from_residual-in_err-chosen.ensures.1 in
    rw (p.1, p.2) (λ foreseen. absurd (foreseen.2 refl))

pub least_plan-requires-clause-loss : goal.least_plan-requires-clause-loss
least_plan-requires-clause-loss g c κs within = c.in_ok-problem.ensures.loss

pub returns-clause-given : goal.returns-clause-given
unfolding least_given
returns-clause-given g c = gives_then (λ (problem : Loss). problem.targets) output_of c.in_ok-problem.problem (Ok c.in_ok-chosen.chosen)
    (targets_given c.args.matrix.now c.args.lost.now) (λ targets. Ok (output_of (least_by c.args.matrix.now targets c.args.choosing.now.budget)))
    c.in_ok-problem.ensures.given (ap (λ (chosen : ChosenPlan). Ok (output_of chosen)) (sym c.in_ok-chosen.ensures.chosen))
