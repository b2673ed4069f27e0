use Rattle.std.proofs.Common.{◌<◌, ◌-◌, get_or, ap, sym, is_some, arith}
use Rattle.mr_front.proofs.AppendLaws.{ends-some, shorter-tidy, shorter-added, emptied-tidy, emptied-added, empty-items, some-items}
use Rattle.mr_front.proofs.waiting.Waiting.take_last.Goals as goal

pub returns-in_default : goal.returns-in_default
returns-in_default c = absurd (ends-some c.args.self.now.problem c.args.self.now.lists c.args.level c.cost.result c.args.mask c.cost.ensures.cost c.requires c.in_default.ensures.value)

pub invariant_of-self-then-is_empty : goal.invariant_of-self-then-is_empty
invariant_of-self-then-is_empty c =
    let m = c.args.self.now.lists in
    let old = c.in-Some.list.now in
    let w = c.pop.new.self in
    let there = c.in-Some.ensures.value in
    let tidy = c.args.self.now.tidy in
    let some : 0 < old.len = omega (arith, tidy.some (c.cost.result, c.args.level) old (sym there), old.ok.0) in
    record {
      tidy = emptied-tidy c.args.self.now.problem m c.args.level c.cost.result c.args.mask c.cost.ensures.cost c.requires old w c.pop.result (get_or old.items (old.len - 1) c.args.mask) tidy there
          c.pop.ensures.items (c.pop.ensures.value c.args.mask some) (c.get_mut.follows.lender w) c.remove.new.self
          ((c.get_mut.follows.holds w).3 (ap is_some (sym there))).0 c.remove.ensures.updates.0 c.remove.ensures.ordered;
    }

pub invariant_of-self-else-is_empty : goal.invariant_of-self-else-is_empty
invariant_of-self-else-is_empty c =
    let m = c.args.self.now.lists in
    let old = c.in-Some.list.now in
    let w = c.pop.new.self in
    let there = c.in-Some.ensures.value in
    let tidy = c.args.self.now.tidy in
    let some : 0 < old.len = omega (arith, tidy.some (c.cost.result, c.args.level) old (sym there), old.ok.0) in
    record {
      tidy = shorter-tidy c.args.self.now.problem m c.args.level c.cost.result c.args.mask c.cost.ensures.cost c.requires old w c.pop.result (get_or old.items (old.len - 1) c.args.mask) tidy there
          c.pop.ensures.items (c.pop.ensures.value c.args.mask some) (c.get_mut.follows.lender w)
          ((c.get_mut.follows.holds w).3 (ap is_some (sym there))).0 (some-items w c.is_empty.result w.ok.0 c.is_empty.ensures c.if-is_empty.false) (c.get_mut.follows.holds w).4;
    }

pub returns-then-is_empty-clause-added : goal.returns-then-is_empty-clause-added
returns-then-is_empty-clause-added c =
    let m = c.args.self.now.lists in
    let old = c.in-Some.list.now in
    let w = c.pop.new.self in
    let there = c.in-Some.ensures.value in
    let tidy = c.args.self.now.tidy in
    let some : 0 < old.len = omega (arith, tidy.some (c.cost.result, c.args.level) old (sym there), old.ok.0) in
    emptied-added c.args.self.now.problem m c.args.level c.cost.result c.args.mask c.cost.ensures.cost c.requires old w c.pop.result (get_or old.items (old.len - 1) c.args.mask) tidy there
    c.pop.ensures.items (c.pop.ensures.value c.args.mask some) (c.get_mut.follows.lender w) c.remove.new.self
    ((c.get_mut.follows.holds w).3 (ap is_some (sym there))).0 c.remove.ensures.updates.0 (empty-items w c.is_empty.result w.ok.0 c.is_empty.ensures c.if-is_empty.true)

pub returns-else-is_empty-clause-added : goal.returns-else-is_empty-clause-added
returns-else-is_empty-clause-added c =
    let m = c.args.self.now.lists in
    let old = c.in-Some.list.now in
    let w = c.pop.new.self in
    let there = c.in-Some.ensures.value in
    let tidy = c.args.self.now.tidy in
    let some : 0 < old.len = omega (arith, tidy.some (c.cost.result, c.args.level) old (sym there), old.ok.0) in
    shorter-added c.args.self.now.problem m c.args.level c.cost.result c.args.mask c.cost.ensures.cost c.requires old w c.pop.result (get_or old.items (old.len - 1) c.args.mask) tidy there
    c.pop.ensures.items (c.pop.ensures.value c.args.mask some) (c.get_mut.follows.lender w)
    ((c.get_mut.follows.holds w).3 (ap is_some (sym there))).0
