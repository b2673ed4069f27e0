use Rattle.std.proofs.Common.{◌+◌, ◌*◌, ◌^◌, ◌<◌, ◌≤◌, ◌∙◌, length, ap, subst, arith, rules}
use Rattle.std.specs.Prelude.{slice_index}
use Rattle.mr_kern.specs.Xor.{xor_bytes}
use Rattle.mr_scrub.specs.Stripes.{checks_of}
use Rattle.mr_scrub.proofs.FaultLaws.{adds-none, adds-more, adds-all, adds-fits, read_part}
use Rattle.mr_scrub.proofs.faults.xor_part.Goals as goal

pub loop-symbol-init : goal.loop-symbol-init
loop-symbol-init g c = (
  tt,
  tt,
  (
    0,
    adds-none (length c.args.checks.now.rows) c.args.stripe.now.size c.args.stripe.now.bytes.now c.requires.stripe (slice_index (checks_of c.args.checks.now) c.args.x) c.args.at (length c.args.part.now)
        c.into_iter-symbol-iterator.result c.fill.new.self
        (c.into_iter-symbol-iterator.ensures.into_iter_gives ∙ c.symbols-symbol-items.ensures.all ∙ c.get.ensures.value) (c.fill.ensures.after (λ y same. same)),
  ),
)

pub overflow_mul-from : goal.overflow_mul-from
overflow_mul-from g c =
    let h : c.in-Some.symbol * c.args.stripe.now.size + c.args.at + length c.args.part.now ≤ length c.args.stripe.now.bytes.now =
    adds-fits (length c.args.checks.now.rows) c.args.stripe.now.size c.args.stripe.now.bytes.now c.requires.stripe (slice_index (checks_of c.args.checks.now) c.args.x) c.args.at (length c.args.part.now)
    c.loop-symbol.invariant.2.0 c.loop-symbol.symbol-iterator c.in-Some.symbol c.next.new.self c.loop-symbol.part
    (subst (λ v. v < 2 ^ length c.args.checks.now.rows) c.get.ensures.value c.get.ensures.symbols)
    c.requires.part c.loop-symbol.invariant.2.1 c.in-Some.ensures.steps in search rules

pub overflow_add-from : goal.overflow_add-from
overflow_add-from g c =
    let h : c.in-Some.symbol * c.args.stripe.now.size + c.args.at + length c.args.part.now ≤ length c.args.stripe.now.bytes.now =
    adds-fits (length c.args.checks.now.rows) c.args.stripe.now.size c.args.stripe.now.bytes.now c.requires.stripe (slice_index (checks_of c.args.checks.now) c.args.x) c.args.at (length c.args.part.now)
    c.loop-symbol.invariant.2.0 c.loop-symbol.symbol-iterator c.in-Some.symbol c.next.new.self c.loop-symbol.part
    (subst (λ v. v < 2 ^ length c.args.checks.now.rows) c.get.ensures.value c.get.ensures.symbols)
    c.requires.part c.loop-symbol.invariant.2.1 c.in-Some.ensures.steps in search rules

pub overflow_add-from-in-loop-symbol : goal.overflow_add-from-in-loop-symbol
overflow_add-from-in-loop-symbol g c =
    let h : c.in-Some.symbol * c.args.stripe.now.size + c.args.at + length c.args.part.now ≤ length c.args.stripe.now.bytes.now =
    adds-fits (length c.args.checks.now.rows) c.args.stripe.now.size c.args.stripe.now.bytes.now c.requires.stripe (slice_index (checks_of c.args.checks.now) c.args.x) c.args.at (length c.args.part.now)
    c.loop-symbol.invariant.2.0 c.loop-symbol.symbol-iterator c.in-Some.symbol c.next.new.self c.loop-symbol.part
    (subst (λ v. v < 2 ^ length c.args.checks.now.rows) c.get.ensures.value c.get.ensures.symbols)
    c.requires.part c.loop-symbol.invariant.2.1 c.in-Some.ensures.steps in search rules

pub slice_bounds-xor_into-end : goal.slice_bounds-xor_into-end
slice_bounds-xor_into-end g c =
    let h : c.in-Some.symbol * c.args.stripe.now.size + c.args.at + length c.args.part.now ≤ length c.args.stripe.now.bytes.now =
    adds-fits (length c.args.checks.now.rows) c.args.stripe.now.size c.args.stripe.now.bytes.now c.requires.stripe (slice_index (checks_of c.args.checks.now) c.args.x) c.args.at (length c.args.part.now)
    c.loop-symbol.invariant.2.0 c.loop-symbol.symbol-iterator c.in-Some.symbol c.next.new.self c.loop-symbol.part
    (subst (λ v. v < 2 ^ length c.args.checks.now.rows) c.get.ensures.value c.get.ensures.symbols)
    c.requires.part c.loop-symbol.invariant.2.1 c.in-Some.ensures.steps in search rules

pub loop-symbol-preserved : goal.loop-symbol-preserved
loop-symbol-preserved g c = (
  tt,
  tt,
  (
    c.in-Some.symbol + 1,
    adds-more (length c.args.checks.now.rows) c.args.stripe.now.size c.args.stripe.now.bytes.now c.requires.stripe (slice_index (checks_of c.args.checks.now) c.args.x) c.args.at (length c.args.part.now)
        c.loop-symbol.invariant.2.0 c.loop-symbol.symbol-iterator c.in-Some.symbol c.next.new.self c.loop-symbol.part c.xor_into.new.dst
        (subst (λ v. v < 2 ^ length c.args.checks.now.rows) c.get.ensures.value c.get.ensures.symbols)
        c.requires.part c.loop-symbol.invariant.2.1 c.in-Some.ensures.steps
        (c.xor_into.ensures ∙ ap (xor_bytes c.loop-symbol.part)
        (read_part c.from.result c.in-Some.symbol c.args.stripe.now.size c.args.at (length c.args.part.now) (length c.loop-symbol.part) c.args.stripe.now.bytes.now c.from.ensures (omega arith))),
  ),
)

pub returns : goal.returns
returns g c =
    adds-all (length c.args.checks.now.rows) c.args.stripe.now.size c.args.stripe.now.bytes.now c.requires.stripe (slice_index (checks_of c.args.checks.now) c.args.x) c.args.at (length c.args.part.now)
    c.loop-symbol.invariant.2.0 c.loop-symbol.symbol-iterator c.loop-symbol.part c.loop-symbol.invariant.2.1 c.in-None.ensures.steps.0
