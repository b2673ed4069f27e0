use Rattle.std.proofs.Common.{◌≡◌, ◌*◌, ◌≤◌, ◌^◌, ap₂, subst, sym, arith}
use Rattle.mr_devices.specs.Places.{part_bytes}
use Rattle.mr_scatter_run.proofs.ReportLaws.{all-bytes-few, part-bytes-few}
use Rattle.mr_scatter_run.proofs.lines.written_bytes.Goals as goal

pub overflow_mul-result : goal.overflow_mul-result
overflow_mul-result c =
    let width : c.from.result * c.from-2.result ≡ part_bytes c.args.ready.now.head = ap₂ (λ a b. a * b) (omega arith) (omega (arith, c.bytes.ensures.number)) in
    let few : c.from.result * c.from-2.result * c.len.result ≤ 2 ^ 87 = subst (λ p. p * c.len.result ≤ 2 ^ 87) (sym width) (part-bytes-few c.args.ready.now.head c.len.result c.bytes.ensures.limits (omega arith)) in
    omega (arith, few)

pub overflow_mul-result-2 : goal.overflow_mul-result-2
overflow_mul-result-2 c =
    let width : c.from.result * c.from-2.result ≡ part_bytes c.args.ready.now.head = ap₂ (λ a b. a * b) (omega arith) (omega (arith, c.bytes.ensures.number)) in
    let few : c.from.result * c.from-2.result * c.len.result ≤ 2 ^ 87 = subst (λ p. p * c.len.result ≤ 2 ^ 87) (sym width) (part-bytes-few c.args.ready.now.head c.len.result c.bytes.ensures.limits (omega arith)) in
    omega (arith, all-bytes-few c.from-3.result (c.from.result * c.from-2.result * c.len.result) (omega arith) few)
