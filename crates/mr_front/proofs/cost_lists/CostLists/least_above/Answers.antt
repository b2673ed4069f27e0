use Rattle.std.proofs.Common.{ℕ, List, subst, IfSome}
use Rattle.std.specs.Global.{Vec}
use Rattle.std.specs.List.{slice_get}
use Rattle.std.specs.Ordering.{nat_cmp}
use Rattle.std.specs.BTreeMap.Range.{IsLeBy}
use Rattle.mr_front.proofs.MapLaws.{has-list, no-list, less-cmp, le-from}
use Rattle.mr_front.proofs.cost_lists.CostLists.least_above.Goals as goal

pub returns-in-Some-clause-least : goal.returns-in-Some-clause-least
returns-in-Some-clause-least c k u h more =
    let first = (c.range.ensures.in_range tt).2 k (less-cmp c.args.above k more, tt) (has-list c.args.self.now.map k u h) in
    le-from c.in-Some.cost.now k (subst (λ (r : List (ℕ × Vec ℕ)). IfSome (slice_get r 0) (λ e. IsLeBy nat_cmp e.0 k)) c.in-Some.ensures.steps first)

pub returns-in-None-clause-least : goal.returns-in-None-clause-least
returns-in-None-clause-least c k u h more =
    no-list c.args.self.now.map k u ((c.range.ensures.in_range tt).5 c.in-None.ensures.steps.0 k (less-cmp c.args.above k more, tt)) h
