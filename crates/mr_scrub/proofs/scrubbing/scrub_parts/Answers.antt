use Rattle.std.proofs.Common.{◌≡◌, ◌*◌, ◌∙◌, ap, length, take, arith}
use Rattle.mr_scrub.specs.Scans.{stripe_bytes}
use Rattle.mr_scrub.proofs.ScrubLaws.{part-size, part-within, scrubbed-more, scrubbed-all}
use Rattle.mr_scrub.proofs.scrubbing.scrub_parts.Goals as goal

pub read_part-requires-clause-part : goal.read_part-requires-clause-part
read_part-requires-clause-part g c =
    let long : length (take (c.min-count.result * c.stripe_width-width.result) c.loop-first.buffer) ≡ c.min-count.result * stripe_bytes c.args.scanner.now.head.now =
    part-size c.min-count.result c.stripe_width-width.result (length c.args.buffer.now) c.loop-first.buffer c.loop-first.auto.buffer (omega (arith, c.min-count.ensures))
    ∙ ap (λ w. c.min-count.result * w) c.stripe_width-width.ensures.bytes in
    omega (arith, long, part-within c.args.scanner.now.head.now c.loop-first.first c.min-count.result (omega (arith, c.min-count.ensures, c.stripes-stripes.ensures.number, c.loop-first.invariant.in_range)))

pub add_broken-requires-clause-few : goal.add_broken-requires-clause-few
add_broken-requires-clause-few g c κs within =
    let long : length c.read_part.new.part ≡ c.min-count.result * stripe_bytes c.args.scanner.now.head.now =
    c.read_part.auto.part
    ∙ part-size c.min-count.result c.stripe_width-width.result (length c.args.buffer.now) c.loop-first.buffer c.loop-first.auto.buffer (omega (arith, c.min-count.ensures))
    ∙ ap (λ w. c.min-count.result * w) c.stripe_width-width.ensures.bytes in
    omega (arith, long, part-within c.args.scanner.now.head.now c.loop-first.first c.min-count.result (omega (arith, c.min-count.ensures, c.stripes-stripes.ensures.number, c.loop-first.invariant.in_range)))

pub loop-first-preserved : goal.loop-first-preserved
loop-first-preserved g c =
    scrubbed-more c.args.scanner.now.head.now c.args.scanner.now.checks.now (g.E.Eye.sight c.args.eye.now) c.loop-first.first c.min-count.result
    (length (take (c.min-count.result * c.stripe_width-width.result) c.loop-first.buffer)) (g.E.Eye.sight c.loop-first.eye) (g.E.Eye.sight c.read_part.new.eye)
    (g.E.Eye.faults c.args.eye.now) (g.E.Eye.faults c.loop-first.eye) (g.E.Eye.faults c.read_part.new.eye) c.loop-first.broken.items c.add_broken.new.broken.items c.read_part.new.part
    c.loop-first.invariant (omega (arith, c.stripe_width-width.ensures.bytes, c.stripe_width-width.ensures.some))
    (omega (arith, c.min-count.ensures, c.stripes-stripes.ensures.number, c.loop-first.invariant.in_range)) c.requires.eye
    (part-size c.min-count.result c.stripe_width-width.result (length c.args.buffer.now) c.loop-first.buffer c.loop-first.auto.buffer (omega (arith, c.min-count.ensures))
    ∙ ap (λ w. c.min-count.result * w) c.stripe_width-width.ensures.bytes)
    c.in_ok-read_part.ensures.read c.in_ok-read_part.ensures.taken c.in_ok-read_part.ensures.quiet c.in_ok-add_broken.ensures.added

pub returns-clause-broken : goal.returns-clause-broken
returns-clause-broken g c =
    scrubbed-all c.args.scanner.now.head.now c.args.scanner.now.checks.now (g.E.Eye.sight c.args.eye.now) c.loop-first.first (g.E.Eye.sight c.loop-first.eye)
    (g.E.Eye.faults c.args.eye.now) (g.E.Eye.faults c.loop-first.eye) c.loop-first.broken.items c.loop-first.invariant
    (omega (arith, c.stripes-stripes.ensures.number, c.loop-first.invariant.in_range, c.loop-first-test.false))
