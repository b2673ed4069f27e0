use Rattle.mr_plan.proofs.CheckLaws.{answer-valid}
use Rattle.mr_plan.proofs.FaultLaws.{if_fault}
use Rattle.mr_plan.proofs.checking.check.Goals as goal

pub returns-clause-fault : goal.returns-clause-fault
returns-clause-fault c = if_fault c.args.matrix.now c.args.lost c.args.plan.now c.check_in_order.result c.check_in_order.ensures

pub returns-clause-valid : goal.returns-clause-valid
returns-clause-valid c = answer-valid c.args.matrix.now c.args.lost c.args.plan.now c.check_in_order.result c.check_in_order.ensures
