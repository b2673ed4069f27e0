use Rattle.std.proofs.Common.{◌≡◌, ◌/◌, ◌∙◌, ap, length, arith}
use Rattle.std.proofs.lemmas.List.FromFn.{length-map-range_with_len}
use Rattle.mr_scrub.specs.Scans.{stripe_bytes, fault_of}
use Rattle.mr_scrub.proofs.ScrubLaws.{are-faults, few-stripes}
use Rattle.mr_scrub.proofs.scrubbing.add_broken.Goals as goal

pub add_faults-requires-clause-few : goal.add_faults-requires-clause-few
add_faults-requires-clause-few g c =
    let count : length c.deref.result.now ≡ length c.args.part.now.bytes.now / stripe_bytes c.args.scanner.now.head.now =
    ap length (c.deref.ensures.value ∙ c.in-Ok.ensures.faults)
    ∙ length-map-range_with_len (fault_of c.args.scanner.now.checks.now c.args.scanner.now.head.now c.args.part.now.first c.args.part.now.bytes.now) 0
    (length c.args.part.now.bytes.now / stripe_bytes c.args.scanner.now.head.now) in
    omega (arith, count, few-stripes c.args.scanner.now.head.now c.args.part.now.first (length c.args.part.now.bytes.now) c.bytes-within_the_limits.ensures.limits c.requires.few)

pub add_faults-requires-clause-faults : goal.add_faults-requires-clause-faults
add_faults-requires-clause-faults g c =
    are-faults c.args.scanner.now.checks.now c.args.scanner.now.head.now c.args.part.now.first c.args.part.now.bytes.now c.deref.result.now (c.deref.ensures.value ∙ c.in-Ok.ensures.faults)
