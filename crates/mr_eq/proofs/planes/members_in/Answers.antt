use Rattle.std.proofs.Common.{◌∙◌, ap, arith}
use Rattle.std.specs.Prelude.{count_ones}
use Rattle.mr_model.proofs.Loops.{members-few}
use Rattle.mr_eq.proofs.planes.members_in.Goals as goal

pub returns-clause-number : goal.returns-clause-number
returns-clause-number c = c.count.ensures.number ∙ ap count_ones c.common.ensures

pub returns-clause-few : goal.returns-clause-few
returns-clause-few c = omega (arith, c.count.ensures.listed, members-few c.common.result)
