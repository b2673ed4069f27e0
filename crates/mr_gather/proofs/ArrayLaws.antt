-- Where symbols stand on their devices.
use Rattle.std.proofs.Common.{◌≡◌, ℕ, suc, ◌+◌, ◌*◌, ◌/◌, ◌%◌, ◌^◌, ◌<◌, ◌≤◌, List, take, drop, get_or, length, replicate, Some, None, IfSome, cond, sym, ap, subst, ◌∙◌, arith}
use Rattle.std.specs.Prelude.{Option, true, false, IsSome}
use Rattle.std.proofs.Math.Nat.{suc-mul, add-mul, mul_assoc, mul-le-mul_right, mod-lt, div-lt_iff_lt-mul}
use Rattle.std.proofs.lemmas.List.{get_or_default}
use Rattle.mr_model.specs.Sets.{has}
use Rattle.mr_io.specs.Sights.{Sight}
use Rattle.mr_image.specs.Images.{Layout, IsLayout, stripe_symbols}
use Rattle.mr_devices.specs.Places.{array_of, device_place, part_bytes}
use Rattle.mr_gather.specs.Arrays.{gathered}
use Rattle.mr_gather.specs.Slots.{AreLong, Tells, Holds}

-- no device has more than 128 symbols in a stripe
pub few-symbols : (l : Layout) → IsLayout l → l.symbols_per_device ≤ 128
few-symbols l h =
    let few : l.devices * l.symbols_per_device ≤ 128 = h.few_symbols in
    omega (arith, few, h.some_devices, mul-le-mul_right {m = 1} {n = l.devices} l.symbols_per_device h.some_devices)

-- products that fit
pub stripe-product : (x w : ℕ) → x ≤ 2 ^ 33 → w ≤ 128 → x * w ≤ 2 ^ 40
stripe-product x w few low = omega (arith, low, mul-le-mul_right {m = x} {n = 2 ^ 33} w few)

pub place-product : (q size : ℕ) → q ≤ 2 ^ 41 → size ≤ 65536 → q * size ≤ 2 ^ 57
place-product q size few low = omega (arith, low, mul-le-mul_right {m = q} {n = 2 ^ 41} size few)

-- a symbol is on one of the devices
pub device-low : (l : Layout) (i : ℕ) → IsLayout l → i < stripe_symbols l → i / l.symbols_per_device < l.devices
device-low l i h low = (div-lt_iff_lt-mul {k = l.symbols_per_device} {x = i} {y = l.devices} (omega (arith, h.some_symbols))).1 low

-- a symbol of a stripe ends within the stripes
pub place-end : (l : Layout) (first number i : ℕ) → IsLayout l → number < l.stripes
    → device_place l (first + number) i + l.symbol_bytes ≤ (first + l.stripes) * part_bytes l
place-end l first number i h low =
    let w : ℕ = l.symbols_per_device in
    let q : ℕ = (first + number) * w + i % w in
    let within : i % w < w = mod-lt i {m = w} (omega (arith, h.some_symbols)) in
    let stripes : suc (first + number) * w ≤ (first + l.stripes) * w = mul-le-mul_right w (omega (arith, low)) in
    let next : suc q ≤ (first + l.stripes) * w = omega (arith, within, stripes, suc-mul (first + number) w) in
    omega (arith, mul-le-mul_right l.symbol_bytes next, suc-mul q l.symbol_bytes, mul_assoc (first + l.stripes) w l.symbol_bytes)

-- the two kinds of symbols that are gathered
pub gathered-none : (l : Layout) (devices : ℕ → List ℕ) (set first s i : ℕ) → has set i ≡ false → gathered l devices set first s i ≡ replicate l.symbol_bytes 0
unfolding gathered
gathered-none l devices set first s i e = ap (λ b. cond b (array_of l devices (first + s) i) (replicate l.symbol_bytes 0)) e

pub gathered-read : (l : Layout) (devices : ℕ → List ℕ) (set first s i : ℕ) → has set i ≡ true → gathered l devices set first s i ≡ array_of l devices (first + s) i
unfolding gathered
gathered-read l devices set first s i e = ap (λ b. cond b (array_of l devices (first + s) i) (replicate l.symbol_bytes 0)) e

module _ {E : Type 0} (sight : E → Sight) where
  -- a read is within its device
  pub slot-fits : (slots : List (Option E)) (k : ℕ) (d : Option E) (at len end : ℕ) → k < length slots → AreLong sight end slots → at + len ≤ end
      → IfSome (get_or slots k d) (λ eye. IfSome (sight eye).bytes (λ file. at + len ≤ length file))
  slot-fits slots k d at len end low long fits = subst (λ slot. IfSome slot (λ eye. IfSome (sight eye).bytes (λ file. at + len ≤ length file))) (get_or_default slots k None d low) (in_slot (get_or slots k None) (long k low))
    where
      in_file : (bytes : Option (List ℕ)) → IfSome bytes (λ file. end ≤ length file) → IfSome bytes (λ file. at + len ≤ length file)
      in_file None h = tt
      in_file (Some file) h = omega (arith, h, fits)

      in_slot : (slot : Option E) → IfSome slot (λ eye. IfSome (sight eye).bytes (λ file. end ≤ length file)) → IfSome slot (λ eye. IfSome (sight eye).bytes (λ file. at + len ≤ length file))
      in_slot None h = tt
      in_slot (Some eye) h = in_file (sight eye).bytes h

  read_of : (slot : Option E) (file got : List ℕ) (n at : ℕ) → IsSome slot → IfSome slot (λ eye. (sight eye).bytes ≡ Some file)
      → IfSome slot (λ eye. IfSome (sight eye).bytes (λ f. got ≡ take n (drop at f))) → got ≡ take n (drop at file)
  read_of None file got n at some told read = absurd (grind arith)
  read_of (Some eye) file got n at some told read = subst (λ b. IfSome b (λ f. got ≡ take n (drop at f))) told read

  -- what was read of a device that is there
  pub slot-read : (slots : List (Option E)) (k : ℕ) (d : Option E) (devices : ℕ → List ℕ) (got : List ℕ) (n at : ℕ) → k < length slots → IsSome (get_or slots k None) → Tells sight devices slots
      → IfSome (get_or slots k d) (λ eye. IfSome (sight eye).bytes (λ f. got ≡ take n (drop at f))) → got ≡ take n (drop at (devices k))
  slot-read slots k d devices got n at low some told read =
      read_of (get_or slots k None) (devices k) got n at some (told k low)
      (subst (λ slot. IfSome slot (λ eye. IfSome (sight eye).bytes (λ f. got ≡ take n (drop at f)))) (get_or_default slots k d None low) read)
