use Rattle.std.proofs.Common.{◌≡◌, ℕ, ◌+◌, ◌*◌, ◌^◌, ◌<◌, ◌≤◌, ◌%◌, arith}
use Rattle.std.proofs.Math.Nat.{mod-lt}
use Rattle.mr_image.specs.Images.{IsLayout}
use Rattle.mr_gather.proofs.ArrayLaws.{few-symbols, stripe-product, place-product}
use Rattle.mr_gather.proofs.stripes.place_on_device.Goals as goal

pub overflow_mul-result : goal.overflow_mul-result
overflow_mul-result c =
    let few : c.from-3.result ≤ 128 = omega (arith, c.from-3.ensures, c.w-w.ensures, few-symbols c.args.gathering.now.head c.bytes.ensures.limits) in
    omega (arith, stripe-product (c.from.result + c.from-2.result) c.from-3.result (omega (arith, c.from.ensures, c.from-2.ensures)) few)

pub overflow_mul-result-2 : goal.overflow_mul-result-2
overflow_mul-result-2 c =
    let few : c.from-3.result ≤ 128 = omega (arith, c.from-3.ensures, c.w-w.ensures, few-symbols c.args.gathering.now.head c.bytes.ensures.limits) in
    let width : c.w-w.result ≤ 128 = omega (arith, c.w-w.ensures, few-symbols c.args.gathering.now.head c.bytes.ensures.limits) in
    let size : c.from-size.result ≤ 65536 = omega (arith, c.from-size.ensures, c.bytes.ensures.number, c.bytes.ensures.limits.few_bytes) in
    let low : c.from-4.result % c.w-w.result < c.w-w.result = mod-lt c.from-4.result {m = c.w-w.result} (omega (arith, c.w-w.ensures, c.bytes.ensures.limits.some_symbols)) in
    let whole : (c.from.result + c.from-2.result) * c.from-3.result ≤ 2 ^ 40 = stripe-product (c.from.result + c.from-2.result) c.from-3.result (omega (arith, c.from.ensures, c.from-2.ensures)) few in
    omega (arith, place-product ((c.from.result + c.from-2.result) * c.from-3.result + c.from-5.result) c.from-size.result (omega (arith, whole, c.from-5.ensures, low, width)) size)
