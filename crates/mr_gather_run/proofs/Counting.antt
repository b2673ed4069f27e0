-- What is read of all devices together.
use Rattle.std.proofs.Common.{arith, ◌≡◌, ◌+◌, ◌*◌, ◌<◌, ◌≤◌, ◌/◌, ◌^◌, ◌&&◌, ◌==◌, ◌∙◌, ℕ, zero, suc, Bool, true, false, cond, length, nat_lt, count_by, ◌-◌, refl, sym, ap, sum_by}
use Rattle.std.specs.List.{range_with_len}
use Rattle.std.proofs.Math.Nat.{div-lt_iff_lt-mul, mul-le-mul_right}
use Rattle.std.proofs.lemmas.Nat.Bits.{bit_at_above}
use Rattle.std.proofs.lemmas.List.Sums.{count_by-le-length, length-filter}
use Rattle.std.proofs.lemmas.List.FromFn.{length-range_with_len}
use Rattle.std.proofs.lemmas.Bool.Decides.{nat_tests}
use Rattle.mr_counts.proofs.NumberLaws.{sum_by-one_more}
use Rattle.mr_image.specs.Images.{Layout, IsLayout, stripe_symbols}
use Rattle.mr_model.specs.Members.{members}
use Rattle.mr_model.specs.Sets.{count_below, has}
use Rattle.mr_model.proofs.SetLaws.{has-false}
use Rattle.mr_gather.specs.Arrays.{is_read_of}

-- ---- sums over the numbers below n

sum-none : (n : ℕ) → sum_by (λ (d : ℕ). 0) (range_with_len 0 n) ≡ 0
sum-none zero = refl
sum-none (suc n) = omega (arith, sum_by-one_more (λ (d : ℕ). 0) n, sum-none n)

sum-both : (f g : ℕ → ℕ) (n : ℕ) → sum_by (λ d. f d + g d) (range_with_len 0 n) ≡ sum_by f (range_with_len 0 n) + sum_by g (range_with_len 0 n)
sum-both f g zero = refl
sum-both f g (suc n) = omega (arith, sum_by-one_more (λ d. f d + g d) n, sum_by-one_more f n, sum_by-one_more g n, sum-both f g n)

sum-same : (f g : ℕ → ℕ) (n : ℕ) → ((d : ℕ) → f d ≡ g d) → sum_by f (range_with_len 0 n) ≡ sum_by g (range_with_len 0 n)
sum-same f g zero e = refl
sum-same f g (suc n) e = omega (arith, sum_by-one_more f n, sum_by-one_more g n, sum-same f g n e, e n)

pub sum-times : (f : ℕ → ℕ) (m k n : ℕ) → sum_by (λ d. m * (f d * k)) (range_with_len 0 n) ≡ m * (sum_by f (range_with_len 0 n) * k)
sum-times f m k zero = omega arith
sum-times f m k (suc n) =
    let more : sum_by f (range_with_len 0 (suc n)) ≡ sum_by f (range_with_len 0 n) + f n = sum_by-one_more f n in
    let split : m * ((sum_by f (range_with_len 0 n) + f n) * k) ≡ m * (sum_by f (range_with_len 0 n) * k) + m * (f n * k) = omega arith in
    omega (arith, sum_by-one_more (λ d. m * (f d * k)) n, sum-times f m k n, split, ap (λ s. m * (s * k)) more)

-- ---- each member stands on one device

one-device : (b : Bool) (x n : ℕ) → sum_by (λ d. cond (b && (x == d)) 1 0) (range_with_len 0 n) ≡ cond (b && nat_lt x n) 1 0
one-device b x zero = none b
  where
    none : (b : Bool) → ◌≡◌ {A = ℕ} 0 (cond (b && nat_lt x 0) 1 0)
    none true = grind (arith, nat_tests)
    none false = refl
one-device b x (suc n) = omega (arith, sum_by-one_more (λ d. cond (b && (x == d)) 1 0) n, one-device b x n, step b)
  where
    step : (b : Bool) → cond (b && nat_lt x n) 1 0 + cond (b && (x == n)) 1 0 ≡ cond (b && nat_lt x (suc n)) 1 0
    step true = grind (arith, nat_tests)
    step false = refl

module _ (l : Layout) (set : ℕ) where
  abbrev on-device : ℕ → ℕ → ℕ
  on-device i d = count_below i (is_read_of l set d)

  one-more : (i d : ℕ) → on-device (suc i) d ≡ on-device i d + cond (has set i && (i / l.symbols_per_device == d)) 1 0
  unfolding count_below
  one-more i d = refl

  member-more : (i : ℕ) → count_below (suc i) (has set) ≡ count_below i (has set) + cond (has set i) 1 0
  unfolding count_below
  member-more i = refl

  none-yet : (d : ℕ) → on-device 0 d ≡ 0
  unfolding count_below
  none-yet d = refl

  no-member : count_below 0 (has set) ≡ 0
  unfolding count_below
  no-member = refl

  here : (b : Bool) (x n : ℕ) → x < n → ◌≡◌ {A = ℕ} (cond (b && nat_lt x n) 1 0) (cond b 1 0)
  here true x n low = grind (arith, nat_tests)
  here false x n low = refl

  by-devices : (i : ℕ) → i ≤ stripe_symbols l → 1 ≤ l.symbols_per_device
      → sum_by (on-device i) (range_with_len 0 l.devices) ≡ count_below i (has set)
  by-devices zero low some = sum-same (on-device 0) (λ _. 0) l.devices none-yet ∙ sum-none l.devices ∙ sym no-member
  by-devices (suc i) low some =
      let fits : i / l.symbols_per_device < l.devices = (div-lt_iff_lt-mul {k = l.symbols_per_device} {x = i} {y = l.devices} some).1 (omega (arith, low)) in
      sum-same (on-device (suc i)) (λ d. on-device i d + cond (has set i && (i / l.symbols_per_device == d)) 1 0) l.devices (one-more i)
      ∙ sum-both (on-device i) (λ d. cond (has set i && (i / l.symbols_per_device == d)) 1 0) l.devices
      ∙ omega (arith, by-devices i (omega (arith, low)) some, one-device (has set i) (i / l.symbols_per_device) l.devices, here (has set i) (i / l.symbols_per_device) l.devices fits, member-more i)

-- ---- the members of a set

count_by-one_more : (p : ℕ → Bool) (n : ℕ) → count_by p (range_with_len 0 (suc n)) ≡ count_by p (range_with_len 0 n) + cond (p n) 1 0
count_by-one_more p n = sum_by-one_more (λ x. cond (p x) 1 0) n

add-suc : (n k : ℕ) → n + suc k ≡ suc (n + k)
add-suc n k = omega arith

count-listed : (n : ℕ) (p : ℕ → Bool) → count_by p (range_with_len 0 n) ≡ count_below n p
unfolding count_below
count-listed zero p = refl
count-listed (suc n) p = omega (arith, count_by-one_more p n, count-listed n p)

count-past : (n k : ℕ) (p : ℕ → Bool) → ((i : ℕ) → n ≤ i → p i ≡ false) → count_below (n + k) p ≡ count_below n p
unfolding count_below
count-past n zero p none = ap (λ m. count_below m p) (omega arith)
count-past n (suc k) p none = ap (λ m. count_below m p) (add-suc n k) ∙ more (none (n + k) (omega arith)) ∙ count-past n k p none
  where
    more : p (n + k) ≡ false → count_below (suc (n + k)) p ≡ count_below (n + k) p
    more e = rw e (omega arith)

pub members-count : (n set : ℕ) → n ≤ 128 → set < 2 ^ n → count_below n (has set) ≡ length (members set)
unfolding members
members-count n set low small =
    let none : (i : ℕ) → n ≤ i → has set i ≡ false = λ i high. has-false set i (bit_at_above set n i small high) in
    let rest : n + (128 - n) ≡ 128 = omega (arith, low) in
    sym (count-past n (128 - n) (has set) none) ∙ ap (λ m. count_below m (has set)) rest ∙ sym (count-listed 128 (has set))
    ∙ sym (length-filter (has set) (range_with_len 0 128))

-- what is read of each device, of all together
pub read-in-all : (l : Layout) (set : ℕ) → IsLayout l → set < 2 ^ stripe_symbols l
    → sum_by (λ d. l.stripes * (count_below (stripe_symbols l) (is_read_of l set d) * l.symbol_bytes)) (range_with_len 0 l.devices)
    ≡ l.stripes * (length (members set) * l.symbol_bytes)
read-in-all l set limits small =
    sum-times (on-device l set (stripe_symbols l)) l.stripes l.symbol_bytes l.devices
    ∙ ap (λ n. l.stripes * (n * l.symbol_bytes))
    (by-devices l set (stripe_symbols l) (omega arith) limits.some_symbols ∙ members-count (stripe_symbols l) set (omega (arith, limits.few_symbols)) small)

-- so many bytes fit a number of 64 bits
pub members-few : (set : ℕ) → length (members set) ≤ 128
unfolding members
members-few set = let most = count_by-le-length (has set) (range_with_len 0 128) in omega (arith, length-filter (has set) (range_with_len 0 128), most, length-range_with_len 0 128)

pub read-fits : (stripes count size : ℕ) → stripes < 2 ^ 32 → count ≤ 128 → size ≤ 65536 → stripes * (count * size) < 2 ^ 64
read-fits stripes count size few members low =
    let one = mul-le-mul_right {m = count} {n = 128} size members in
    let all = mul-le-mul_right {m = stripes} {n = 2 ^ 32} (count * size) (omega (arith, few)) in
    omega (arith, one, all, low)
