use Rattle.std.proofs.Common.{◌∙◌, sym}
use Rattle.mr_front.proofs.MapLaws.{list-some, list-none, less-from}
use Rattle.mr_front.proofs.cost_lists.CostLists.take.Goals as goal

pub returns-in-Some-clause-taken : goal.returns-in-Some-clause-taken
returns-in-Some-clause-taken c = list-some c.args.self.now.map c.args.cost c.in-Some.list (sym c.in-Some.is ∙ c.remove.ensures.value)

pub returns-in-Some-clause-rest : goal.returns-in-Some-clause-rest
returns-in-Some-clause-rest c = less-from c.args.self.now.map c.remove.new.self c.args.cost c.remove.ensures.updates.0

pub returns-in-None-clause-taken : goal.returns-in-None-clause-taken
returns-in-None-clause-taken c = c.new.ensures.items ∙ list-none c.args.self.now.map c.args.cost (sym c.in-None.is ∙ c.remove.ensures.value)

pub returns-in-None-clause-rest : goal.returns-in-None-clause-rest
returns-in-None-clause-rest c = less-from c.args.self.now.map c.remove.new.self c.args.cost c.remove.ensures.updates.0
