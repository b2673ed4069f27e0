use Rattle.std.proofs.Common.{rules, arith, ◌≡◌, ◌<◌, ◌+◌, ◌^◌, List, length, get_or, subst}
use Rattle.mr_ops.specs.declared.ops.Op.{Op}
use Rattle.mr_locks.proofs.Sums.{below-none}
use Rattle.mr_amend.proofs.Counting.{count_small, counted, of_stripe, ones-each}
use Rattle.mr_amend.proofs.making.calls_of_each.Goals as goal

pub loop-op-init : goal.loop-op-init
loop-op-init c =
    let ops = c.args.terms.now.ops.items in
    let long : length c.in_ok-counts.counts.items ≡ c.args.terms.now.head.stripes = search rules in record {
      count = long;
      each = λ t low.
          let none = below-none (of_stripe ops t) in
          let one = ones-each c.args.terms.now.head.stripes t c.in_ok-counts.counts.items (search rules) low in
          omega (arith, none, one);
    }

pub overflow_add-index_mut : goal.overflow_add-index_mut
overflow_add-index_mut c =
    let old = c.loop-op.invariant in
    let ops = c.args.terms.now.ops.items in
    let low : c.loop-op.op-index < length ops = subst (λ (l : List Op). c.loop-op.op-index < length l) c.deref-op-items.ensures.value c.loop-op-test.true in
    let stripe : c.stripe.result < c.args.terms.now.head.stripes = search rules in
    let a : c.index_mut.result.now + 1 < 2 ^ 64 = count_small ops c.loop-op.counts.items c.loop-op.op-index c.args.terms.now.head.stripes c.stripe.result c.index_mut.result.now old.count c.index_mut.ensures.value old.each stripe low c.requires.small in
    search rules

pub loop-op-preserved : goal.loop-op-preserved
loop-op-preserved c =
    let old = c.loop-op.invariant in
    let ops = c.args.terms.now.ops.items in
    let low : c.loop-op.op-index < length ops = subst (λ (l : List Op). c.loop-op.op-index < length l) c.deref-op-items.ensures.value c.loop-op-test.true in
    let is : c.op-item.result ≡ get_or ops c.loop-op.op-index c.op-item.result = subst (λ (l : List Op). c.op-item.result ≡ get_or l c.loop-op.op-index c.op-item.result) c.deref-op-items.ensures.value c.op-item.is in record {
      count = search rules;
      each = counted ops c.loop-op.counts.items c.loop-op.op-index c.args.terms.now.head.stripes c.stripe.result c.index_mut.result.now old.count c.index_mut.ensures.value old.each c.op-item.result low is c.stripe.ensures;
    }
