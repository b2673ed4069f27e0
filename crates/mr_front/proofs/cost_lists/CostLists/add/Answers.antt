use Rattle.std.proofs.Common.{◌∙◌, ◌++◌, ◌∷◌, [], List, ap, sym, subst, is_some, Some}
use Rattle.mr_front.specs.CostLists.{CostMap}
use Rattle.mr_front.proofs.MapLaws.{IsWritten, list-some, list-none, more-from}
use Rattle.mr_front.proofs.cost_lists.CostLists.add.Goals as goal

pub returns-in-Some : goal.returns-in-Some
returns-in-Some c =
    let m = c.args.self.now.map in
    let w = c.push.new.self in
    let there = c.in-Some.ensures.value in
    more-from m (c.get_mut.follows.lender w) c.args.cost c.args.mask c.in-Some.list.now.items w (((c.get_mut.follows.holds w).3 (ap is_some (sym there))).0)
    (list-some m c.args.cost c.in-Some.list.now there) c.in_ok-push.ensures.items

pub returns : goal.returns
returns c =
    let m = c.args.self.now.map in
    more-from m c.insert.new.self c.args.cost c.args.mask [] c.push-2.new.self
    (subst (λ (x : CostMap). IsWritten x c.insert.new.self c.args.cost (Some c.push-2.new.self)) c.get_mut.follows.holds-at-none c.in_ok-insert.ensures.updates.0)
    (list-none m c.args.cost c.in_default.ensures.value)
    (c.in_ok-push-2.ensures.items ∙ ap (λ (vs : List _). vs ++ c.args.mask ∷ []) c.new-list.ensures.items)
