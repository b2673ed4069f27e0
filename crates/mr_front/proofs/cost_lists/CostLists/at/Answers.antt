use Rattle.std.proofs.Common.{◌∙◌}
use Rattle.mr_front.proofs.MapLaws.{list-some, list-none}
use Rattle.mr_front.proofs.cost_lists.CostLists.at.Goals as goal

pub returns-in-Some : goal.returns-in-Some
returns-in-Some c = c.as_slice.ensures.value ∙ list-some c.args.self.now.map c.args.cost c.in-Some.list.now c.in-Some.ensures.value

pub returns-in-None : goal.returns-in-None
returns-in-None c = list-none c.args.self.now.map c.args.cost c.in-None.ensures.value
