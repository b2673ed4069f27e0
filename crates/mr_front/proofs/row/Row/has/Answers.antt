use Rattle.mr_front.proofs.RowLaws.{has-none, has-some}
use Rattle.mr_front.proofs.row.Row.has.Goals as goal

pub returns-clause-none : goal.returns-clause-none
returns-clause-none c h = has-none c.args.equations.now c.args.self.now.lists.map c.args.cost c.at.result.now c.at.ensures (c.has_cost.ensures.none h)

pub returns-clause-some : goal.returns-clause-some
returns-clause-some c h = has-some c.args.equations.now c.args.self.now.lists.map c.args.cost c.at.result.now c.at.ensures (c.has_cost.ensures.some h)
