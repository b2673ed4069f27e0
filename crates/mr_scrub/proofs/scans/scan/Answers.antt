use Rattle.std.proofs.Common.{◌*◌, ◌∙◌, ap₂}
use Rattle.rayon.specs.Numbers.{nat_range}
use Rattle.mr_scrub.proofs.ScanLaws.{scans-each, faults-are}
use Rattle.mr_scrub.proofs.scans.scan.Goals as goal

pub collect-requires-clause-ready : goal.collect-requires-clause-ready
collect-requires-clause-ready g c =
    let ends = c.into_par_iter.ensures in
    rw (c.with_min_len.ensures.base, c.map.ensures.base, c.map.ensures.f, ends.0, ends.1) (λ κs lives k d low. (
      (scans-each c.args.checks.now c.args.head.now c.args.stripes.now (c.symbols.result * c.bytes.result) c.requires.some c.requires.shape
          (ap₂ (λ a b. a * b) c.symbols.ensures.count c.bytes.ensures.number) k d low),
      (λ y p. tt),
    ))

pub returns : goal.returns
returns g c =
    let h = c.in_ok-faults.ensures in
    let chain = rw (c.with_min_len.ensures.base, c.map.ensures.base, c.map.ensures.f) at h.1 in
    let ends = c.into_par_iter.ensures in
    record {
      faults = h.2 ∙ faults-are c.args.checks.now c.args.head.now c.args.first (c.symbols.result * c.bytes.result) c.args.stripes.now chain.0 h.0
          (ap₂ (λ a b. a * b) c.symbols.ensures.count c.bytes.ensures.number)
          (chain.1 ∙ (λ i. nat_range (ends.0 i) (ends.1 i))) chain.2;
    }
