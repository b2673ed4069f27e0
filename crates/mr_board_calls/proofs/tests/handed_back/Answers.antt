use Rattle.std.proofs.Common.{sym, subst}
use Rattle.mr_plan.specs.PlanLists.{ArePlans}
use Rattle.mr_plan.proofs.PlanListLaws.{plans-one}
use Rattle.mr_board_calls.proofs.tests.handed_back.Goals as goal

pub new-plans-requires : goal.new-plans-requires
new-plans-requires g c = subst ArePlans (sym c.in-Ok.ensures.items) (plans-one c.expect-plan.result)
