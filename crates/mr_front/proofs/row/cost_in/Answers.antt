use Rattle.std.proofs.Common.{◌∙◌, ap, arith}
use Rattle.std.specs.Prelude.{count_ones}
use Rattle.mr_model.proofs.Loops.{members-few}
use Rattle.mr_front.proofs.row.cost_in.Goals as goal

pub returns-then-single-clause-cost : goal.returns-then-single-clause-cost
returns-then-single-clause-cost c = c.count.ensures.number ∙ ap count_ones c.common.ensures ∙ c.requires c.if-single.true c.args.set

pub returns-then-single-clause-few : goal.returns-then-single-clause-few
returns-then-single-clause-few c = omega (arith, c.count.ensures.listed, members-few c.common.result)
