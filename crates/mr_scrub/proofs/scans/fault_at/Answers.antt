use Rattle.std.proofs.Common.{◌≡◌, ◌+◌, ◌-◌, ◌*◌, ◌/◌, ◌%◌, ◌<◌, ◌≤◌, ◌∙◌, take, drop, length, ap, ap₂, sym, subst, rules, mod-lt}
use Rattle.mr_model.specs.Code.{Code}
use Rattle.mr_image.specs.Images.{stripe_symbols}
use Rattle.mr_scrub.specs.Stripes.{symbols_of, fault}
use Rattle.mr_scrub.specs.Scans.{stripe_bytes}
use Rattle.mr_scrub.proofs.ScanLaws.{stripe_end, fault-here}
use Rattle.mr_scrub.proofs.scans.fault_at.Goals as goal

pub overflow_add-at : goal.overflow_add-at
overflow_add-at g c =
    let same : c.symbols.result * c.bytes.result ≡ stripe_bytes c.args.scanner.now.head.now = ap₂ (λ a b. a * b) c.symbols.ensures.count c.bytes.ensures.number in
    let h : c.args.k * (c.symbols.result * c.bytes.result) + c.symbols.result * c.bytes.result ≤ length c.args.stripes.now =
    stripe_end c.args.k (length c.args.stripes.now) (c.symbols.result * c.bytes.result) (subst (λ s. c.args.k < length c.args.stripes.now / s) (sym same) c.requires.here) in
    search rules

pub slice_bounds-first_fault-end : goal.slice_bounds-first_fault-end
slice_bounds-first_fault-end g c =
    let same : c.symbols.result * c.bytes.result ≡ stripe_bytes c.args.scanner.now.head.now = ap₂ (λ a b. a * b) c.symbols.ensures.count c.bytes.ensures.number in
    let h : c.args.k * (c.symbols.result * c.bytes.result) + c.symbols.result * c.bytes.result ≤ length c.args.stripes.now =
    stripe_end c.args.k (length c.args.stripes.now) (c.symbols.result * c.bytes.result) (subst (λ s. c.args.k < length c.args.stripes.now / s) (sym same) c.requires.here) in
    search rules

pub returns : goal.returns
returns g c =
    fault-here c.args.scanner.now.checks.now c.args.scanner.now.head.now c.args.first c.args.k c.symbols.result c.bytes.result c.args.stripes.now c.index-checks-first.result c.first_fault.result
    c.symbols.ensures.count c.bytes.ensures.number c.index-checks-first.is
    (mod-lt (c.args.first + c.args.k) c.requires.some)
    (subst (λ (m : Code). length m.rows ≡ stripe_symbols c.args.scanner.now.head.now) (sym c.index-checks-first.is)
    (c.requires.shape ((c.args.first + c.args.k) % length c.args.scanner.now.checks.now) c.index-checks-first.result (mod-lt (c.args.first + c.args.k) c.requires.some)))
    (c.first_fault.ensures.first ∙ ap (λ b. fault c.index-checks-first.result b (symbols_of (length c.index-checks-first.result.rows) b
    (take (c.args.k * (c.symbols.result * c.bytes.result) + c.symbols.result * c.bytes.result - c.args.k * (c.symbols.result * c.bytes.result))
    (drop (c.args.k * (c.symbols.result * c.bytes.result)) c.args.stripes.now)))) (c.bytes-2.ensures.number ∙ sym c.bytes.ensures.number))
