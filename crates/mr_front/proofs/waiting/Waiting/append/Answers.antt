use Rattle.std.proofs.Common.{◌∙◌, ◌++◌, List, ap, sym, is_some}
use Rattle.std.specs.Result.{is_ok}
use Rattle.mr_front.specs.Lists.{HasSame}
use Rattle.mr_front.proofs.AppendLaws.{same-cost, extended-tidy, extended-added, extended-same, on_err_from, new-tidy, new-added}
use Rattle.mr_front.proofs.waiting.Waiting.append.Goals as goal

pub invariant_of-self : goal.invariant_of-self
invariant_of-self c =
    let w = c.extend_from_slice.new.self in
    let there = c.in-Some.ensures.value in
    let priced = same-cost c.args.self.now.problem c.args.masks.now c.cost.result c.index-masks-0.result c.requires.some c.index-masks-0.is c.cost.ensures.cost c.requires.same_cost in
    record {
      tidy = extended-tidy c.args.self.now.problem c.args.self.now.lists (c.get_mut.follows.lender w) c.args.level c.cost.result c.args.masks.now c.in-Some.list.now w c.args.self.now.tidy priced there
          ((c.get_mut.follows.holds w).3 (ap is_some (sym there))).0 (is_ok c.extend_from_slice.result) c.extend_from_slice.ensures.items (c.get_mut.follows.holds w).4;
    }

pub returns-in_err-extend_from_slice-clause-same :
    goal.returns-in_err-extend_from_slice-clause-same
returns-in_err-extend_from_slice-clause-same c =
    let w = c.extend_from_slice.new.self in
    let there = c.in-Some.ensures.value in
    let priced = same-cost c.args.self.now.problem c.args.masks.now c.cost.result c.index-masks-0.result c.requires.some c.index-masks-0.is c.cost.ensures.cost c.requires.same_cost in
    on_err_from c.from_residual.result (HasSame c.args.self.now.lists (c.get_mut.follows.lender w))
    (extended-same c.args.self.now.problem c.args.self.now.lists (c.get_mut.follows.lender w) c.args.level c.cost.result c.args.masks.now c.in-Some.list.now w c.args.self.now.tidy priced there
    ((c.get_mut.follows.holds w).3 (ap is_some (sym there))).0 c.in_err-extend_from_slice.ensures.items)

pub returns-in-Some-clause-added : goal.returns-in-Some-clause-added
returns-in-Some-clause-added c =
    let w = c.extend_from_slice.new.self in
    let there = c.in-Some.ensures.value in
    let priced = same-cost c.args.self.now.problem c.args.masks.now c.cost.result c.index-masks-0.result c.requires.some c.index-masks-0.is c.cost.ensures.cost c.requires.same_cost in
    extended-added c.args.self.now.problem c.args.self.now.lists (c.get_mut.follows.lender w) c.args.level c.cost.result c.args.masks.now c.in-Some.list.now w c.args.self.now.tidy priced there
    ((c.get_mut.follows.holds w).3 (ap is_some (sym there))).0 c.in_ok-extend_from_slice.ensures.items

pub invariant_of-self-2 : goal.invariant_of-self-2
invariant_of-self-2 c =
    let priced = same-cost c.args.self.now.problem c.args.masks.now c.cost.result c.index-masks-0.result c.requires.some c.index-masks-0.is c.cost.ensures.cost c.requires.same_cost in
    record {
      tidy = new-tidy c.args.self.now.problem c.args.self.now.lists c.get_mut.follows.lender-at-none c.insert.new.self c.args.level c.cost.result c.args.masks.now c.extend_from_slice-2.new.self c.args.self.now.tidy priced
          c.get_mut.follows.holds-at-none c.insert.result c.requires.some (c.in_ok-extend_from_slice-2.ensures.items ∙ ap (λ (vs : List _). vs ++ c.args.masks.now) c.new-list.ensures.items)
          c.insert.ensures.updates c.insert.ensures.err c.insert.ensures.ordered;
    }

pub returns-clause-added : goal.returns-clause-added
returns-clause-added c =
    let priced = same-cost c.args.self.now.problem c.args.masks.now c.cost.result c.index-masks-0.result c.requires.some c.index-masks-0.is c.cost.ensures.cost c.requires.same_cost in
    new-added c.args.self.now.problem c.args.self.now.lists c.get_mut.follows.lender-at-none c.insert.new.self c.args.level c.cost.result c.args.masks.now c.extend_from_slice-2.new.self c.args.self.now.tidy priced
    c.get_mut.follows.holds-at-none c.in_default.ensures.value (c.in_ok-extend_from_slice-2.ensures.items ∙ ap (λ (vs : List _). vs ++ c.args.masks.now) c.new-list.ensures.items)
    c.in_ok-insert.ensures.updates
