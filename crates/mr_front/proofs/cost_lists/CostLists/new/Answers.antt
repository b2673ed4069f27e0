use Rattle.std.proofs.Common.{ap}
use Rattle.std.specs.Map.{lookup}
use Rattle.std.specs.Ordering.{nat_cmp}
use Rattle.std.specs.BTreeMap.{is_at}
use Rattle.mr_front.specs.Lists.{items_of}
use Rattle.mr_front.specs.CostLists.{list_in}
use Rattle.mr_front.proofs.cost_lists.CostLists.new.Goals as goal

pub returns : goal.returns
unfolding list_in
returns c k = ap (λ es. items_of (lookup (is_at (nat_cmp k)) es)) c.new.ensures.empty
