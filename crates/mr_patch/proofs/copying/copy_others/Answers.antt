use Rattle.std.proofs.Common.{◌≡◌, ◌*◌, arith, sym, ◌∙◌, ap}
use Rattle.mr_io.specs.Sights.{sight_with}
use Rattle.mr_patch.specs.Damages.{copy_reads, failed_at, parts_of}
use Rattle.mr_patch.proofs.CopyTurns.{copied-all, copied-is, copied-kept, copied-low, copied-member, copied-other, copied-start, copied-turn}
use Rattle.mr_patch.proofs.Walking.{walking-start, walking-turn}
use Rattle.mr_patch.proofs.copying.copy_others.Goals as goal

pub loop-stripe-init : goal.loop-stripe-init
loop-stripe-init g c = (
  copied-start (parts_of c.args.damage.now) (g.E.Eye.sight c.args.eye.now) (g.E.Eye.faults c.args.eye.now) c.args.image.now,
  walking-start c.args.damage.now.head.now c.args.damage.now.lost c.args.damage.now.sectors.now c.stripes-stripe-end.ensures.limits.few_symbols c.requires.damage.sectors,
)

pub next_pattern-failed-requires-clause-symbols : goal.next_pattern-failed-requires-clause-symbols
next_pattern-failed-requires-clause-symbols g c = c.loop-stripe.invariant.1.symbols

pub next_pattern-failed-requires-clause-upwards : goal.next_pattern-failed-requires-clause-upwards
next_pattern-failed-requires-clause-upwards g c = c.loop-stripe.invariant.1.upwards

pub copy_stripe-requires-clause-set : goal.copy_stripe-requires-clause-set
copy_stripe-requires-clause-set g c =
    let failed : c.next_pattern-failed.result.0 ≡ failed_at (parts_of c.args.damage.now) c.loop-stripe.stripe =
    c.next_pattern-failed.ensures.set ∙ sym (c.loop-stripe.invariant.1.same c.args.damage.now.lost c.loop-stripe.stripe (omega arith)) in
    copied-low (parts_of c.args.damage.now) c.shape-within_the_limits.ensures.code c.requires.damage c.loop-stripe.stripe c.minus.result c.all-all.result
    c.next_pattern-failed.result.0 c.all-all.ensures failed c.minus.ensures

pub loop-stripe-preserved : goal.loop-stripe-preserved
loop-stripe-preserved g c =
    let failed : c.next_pattern-failed.result.0 ≡ failed_at (parts_of c.args.damage.now) c.loop-stripe.stripe =
    c.next_pattern-failed.ensures.set ∙ sym (c.loop-stripe.invariant.1.same c.args.damage.now.lost c.loop-stripe.stripe (omega arith)) in (
      copied-turn (parts_of c.args.damage.now) (g.E.Eye.sight c.args.eye.now) (g.E.Eye.faults c.args.eye.now) c.args.image.now
          c.loop-stripe.stripe c.minus.result (g.E.Eye.faults c.loop-stripe.eye) (g.E.Eye.faults c.copy_stripe.new.eye) (g.E.Eye.sight c.loop-stripe.eye) (g.E.Eye.sight c.copy_stripe.new.eye)
          c.loop-stripe.image c.copy_stripe.new.image
          (copied-is (parts_of c.args.damage.now) c.shape-within_the_limits.ensures.code c.requires.damage c.loop-stripe.stripe c.minus.result c.all-all.result
          c.next_pattern-failed.result.0 c.all-all.ensures failed c.minus.ensures)
          (copied-member (parts_of c.args.damage.now) c.shape-within_the_limits.ensures.code c.requires.damage c.loop-stripe.stripe c.minus.result c.all-all.result
          c.next_pattern-failed.result.0 c.all-all.ensures failed c.minus.ensures)
          (copied-other (parts_of c.args.damage.now) c.shape-within_the_limits.ensures.code c.requires.damage c.loop-stripe.stripe c.minus.result c.all-all.result
          c.next_pattern-failed.result.0 c.all-all.ensures failed c.minus.ensures)
          c.loop-stripe.invariant.0 c.in_ok-copy_stripe.ensures.copied c.in_ok-copy_stripe.ensures.kept c.in_ok-copy_stripe.ensures.taken c.in_ok-copy_stripe.ensures.cause.quiet,
      walking-turn c.args.damage.now.sectors.now c.loop-stripe.left.now c.next_pattern-failed.result.1.now c.loop-stripe.stripe c.loop-stripe.invariant.1
          c.next_pattern-failed.ensures.symbols c.next_pattern-failed.ensures.upwards c.next_pattern-failed.ensures.later,
    )

pub returns-clause-copied : goal.returns-clause-copied
returns-clause-copied g c =
    copied-all (parts_of c.args.damage.now) (g.E.Eye.sight c.args.eye.now) (g.E.Eye.faults c.args.eye.now) c.args.image.now
    c.loop-stripe.stripe (g.E.Eye.faults c.loop-stripe.eye) (g.E.Eye.sight c.loop-stripe.eye) c.loop-stripe.image (omega arith) c.loop-stripe.invariant.0

pub returns-clause-kept : goal.returns-clause-kept
returns-clause-kept g c =
    copied-kept (parts_of c.args.damage.now) (g.E.Eye.sight c.args.eye.now) (g.E.Eye.faults c.args.eye.now) c.args.image.now
    c.loop-stripe.stripe (g.E.Eye.faults c.loop-stripe.eye) (g.E.Eye.sight c.loop-stripe.eye) c.loop-stripe.image c.loop-stripe.invariant.0

pub returns-clause-taken : goal.returns-clause-taken
returns-clause-taken g c =
    let all : c.loop-stripe.stripe ≡ c.args.damage.now.head.now.stripes = omega arith in
    c.loop-stripe.invariant.0.taken
    ∙ ap (λ n. sight_with (g.E.Eye.sight c.args.eye.now) (copy_reads (parts_of c.args.damage.now) n * c.args.damage.now.head.now.symbol_bytes)) all
