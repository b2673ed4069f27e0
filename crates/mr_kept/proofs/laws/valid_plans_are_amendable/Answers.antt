use Rattle.mr_kept.proofs.PlanLaws.{amends-valid_plans}
use Rattle.mr_kept.proofs.laws.valid_plans_are_amendable.Goals as goal

pub returns : goal.returns
returns c = amends-valid_plans c.args.head.now
