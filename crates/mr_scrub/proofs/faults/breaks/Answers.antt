use Rattle.std.proofs.Common.{◌≡◌, ◌∙◌, length, sym, subst, arith}
use Rattle.std.specs.Prelude.{slice_index}
use Rattle.mr_scrub.specs.Stripes.{checks_of}
use Rattle.mr_scrub.proofs.FaultLaws.{IsZeroBelow, zero-more, broken-here, whole-here, part-sum}
use Rattle.mr_scrub.proofs.faults.breaks.Goals as goal

pub returns-then-not-is_zero : goal.returns-then-not-is_zero
returns-then-not-is_zero g c =
    sym (broken-here (length c.args.checks.now.rows) c.args.stripe.now.size c.args.stripe.now.bytes.now (slice_index (checks_of c.args.checks.now) c.args.x) c.loop-at.at c.min-len.result c.xor_part.new.part
    (omega (arith, c.min-len.ensures, c.loop-at.invariant.in_range))
    (part-sum (length c.args.checks.now.rows) c.args.stripe.now.size c.args.stripe.now.bytes.now (slice_index (checks_of c.args.checks.now) c.args.x) c.loop-at.at c.min-len.result c.loop-at.tmp c.xor_part.new.part
    (omega (arith, c.min-len.ensures)) c.xor_part.ensures)
    (sym c.is_zero.ensures ∙ c.if-not-is_zero.true))

pub loop-at-preserved : goal.loop-at-preserved
loop-at-preserved g c =
    zero-more (length c.args.checks.now.rows) c.args.stripe.now.size c.args.stripe.now.bytes.now (slice_index (checks_of c.args.checks.now) c.args.x) c.loop-at.at c.min-len.result c.xor_part.new.part
    c.loop-at.invariant (omega (arith, c.min-len.ensures, c.loop-at.invariant.in_range))
    (part-sum (length c.args.checks.now.rows) c.args.stripe.now.size c.args.stripe.now.bytes.now (slice_index (checks_of c.args.checks.now) c.args.x) c.loop-at.at c.min-len.result c.loop-at.tmp c.xor_part.new.part
    (omega (arith, c.min-len.ensures)) c.xor_part.ensures)
    (sym c.is_zero.ensures ∙ c.if-not-is_zero.false)

pub returns : goal.returns
returns g c =
    let all : IsZeroBelow (length c.args.checks.now.rows) c.args.stripe.now.size c.args.stripe.now.bytes.now (slice_index (checks_of c.args.checks.now) c.args.x) c.args.stripe.now.size =
    let same : c.loop-at.at ≡ c.args.stripe.now.size = omega (arith, c.loop-at.invariant.in_range) in
    subst (IsZeroBelow (length c.args.checks.now.rows) c.args.stripe.now.size c.args.stripe.now.bytes.now (slice_index (checks_of c.args.checks.now) c.args.x)) same c.loop-at.invariant in
    sym (whole-here (length c.args.checks.now.rows) c.args.stripe.now.size c.args.stripe.now.bytes.now (slice_index (checks_of c.args.checks.now) c.args.x) all)
