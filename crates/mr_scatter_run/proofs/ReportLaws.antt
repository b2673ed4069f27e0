-- The lines of the report, one after another, and the bytes that are written.
use Rattle.std.proofs.Common.{◌≡◌, ◌+◌, ◌*◌, ◌^◌, ◌≤◌, ℕ, List, ◌++◌, length, take, Option, sym, subst, arith, length-append}
use Rattle.std.proofs.Math.Nat.{mul-le-mul_left, mul-le-mul_right}
use Rattle.std.proofs.Math.Seq.{take-append-add}
use Rattle.mr_image.specs.Images.{IsLayout, Layout}
use Rattle.mr_io.specs.Counts.{Rose}
use Rattle.mr_io.specs.Taking.{Held, Takes, TakesPart}
use Rattle.mr_io.proofs.Taking.{part_after, takes_more}
use Rattle.mr_devices.specs.Places.{part_bytes}
use Rattle.mr_scatter.proofs.PartLaws.{part-few}
use Rattle.mr_steps.specs.Sinks.{HasLine}
use Rattle.mr_steps.proofs.Sinks.{front_part}

-- a line behind one that was put
pub line-after : (a b c : Option Held) (x y z : ℕ) (xs ys : List ℕ) → Takes a b xs → y ≡ x → HasLine b c (Rose y z) ys → HasLine a c (Rose x z) (xs ++ ys)
line-after a b c x y z xs ys takes quiet line = record {
  whole = λ calm. takes_more a b c xs ys takes (line.whole (λ rose. calm (subst (λ n. Rose n z) quiet rose)));
  front = (
    length xs + line.front.0,
    omega (arith, line.front.1, length-append xs ys),
    subst (λ bytes. Takes a c bytes) (sym (take-append-add xs ys line.front.0)) (takes_more a b c xs (take line.front.0 ys) takes line.front.2),
  );
}

-- a line that was cut off, with what would follow it
pub line-cut : (a b : Option Held) (x y : ℕ) (xs ys : List ℕ) → TakesPart a b xs → Rose x y → HasLine a b (Rose x y) (xs ++ ys)
line-cut a b x y xs ys part rose = record { whole = λ calm. absurd (calm rose); front = front_part (part_after a b xs ys part) }

-- the bytes that are written are a number of 128 bits
pub part-bytes-few : (l : Layout) (count : ℕ) → IsLayout l → count ≤ 2 ^ 64 → part_bytes l * count ≤ 2 ^ 87
part-bytes-few l count limits few =
    let part : part_bytes l ≤ 2 ^ 23 = part-few l limits in
    omega (arith, few, mul-le-mul_left {m = count} {n = 2 ^ 64} (2 ^ 23) few, mul-le-mul_right {m = part_bytes l} {n = 2 ^ 23} count part)

pub all-bytes-few : (stripes each : ℕ) → stripes ≤ 2 ^ 32 → each ≤ 2 ^ 87 → stripes * each ≤ 2 ^ 119
all-bytes-few stripes each few low =
    omega (arith, mul-le-mul_left {m = each} {n = 2 ^ 87} (2 ^ 32) low, mul-le-mul_right {m = stripes} {n = 2 ^ 32} each few)
