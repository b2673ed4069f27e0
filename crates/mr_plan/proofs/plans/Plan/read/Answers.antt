use Rattle.std.proofs.Common.{ap, ◌∙◌}
use Rattle.mr_plan.specs.Readings.{read_plan}
use Rattle.mr_plan.proofs.PlanReadLaws.{if_read, plan-printed}
use Rattle.mr_plan.proofs.FirstBadLaws.{if_refused}
use Rattle.mr_plan.proofs.plans.Plan.read.Goals as goal

pub returns-clause-first_bad : goal.returns-clause-first_bad
returns-clause-first_bad c = if_refused c.args.bytes.now c.read_lines.result c.read_lines.ensures

pub returns-clause-spelled : goal.returns-clause-spelled
returns-clause-spelled c = if_read c.args.bytes.now c.read_lines.result c.read_lines.ensures

pub returns-clause-read : goal.returns-clause-read
returns-clause-read c = λ plan is spelled. c.read_lines.ensures ∙ ap read_plan spelled ∙ plan-printed plan is
