use Rattle.std.proofs.Common.{List, subst, sym}
use Rattle.mr_plan.specs.Plans.{PlanParts}
use Rattle.mr_plan.specs.PlanLists.{ArePlans}
use Rattle.mr_plan.proofs.PlanListLaws.{plans-one}
use Rattle.mr_choices.proofs.chosen.ChosenPlans.of_one.Goals as goal

pub new-requires : goal.new-requires
new-requires c = subst (λ (plans : List PlanParts). ArePlans plans) (sym c.in_ok-vec.ensures.items) (plans-one c.args.chosen.plan)
