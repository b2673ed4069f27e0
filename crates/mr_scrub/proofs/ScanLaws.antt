-- The stripes of a scan: that each stands within the bytes, and what its first fault is.
use Rattle.std.proofs.Common.{◌≡◌, ℕ, suc, ◌+◌, ◌-◌, ◌*◌, ◌/◌, ◌%◌, ◌<◌, ◌≤◌, List, take, drop, length, get_or, map, All, Option, ap, subst, ◌∙◌, arith}
use Rattle.std.specs.List.{range_with_len, AllZip}
use Rattle.std.proofs.lemmas.Slice.Zip.{AllZip-map}
use Rattle.rayon.proofs.ToStd.{nat_range-All}
use Rattle.std.proofs.Math.Nat.{suc-mul, mul-le-mul_right, div-mul-le_self}
use Rattle.std.proofs.lemmas.List.{get_or_default}
use Rattle.mr_model.specs.Code.{Code}
use Rattle.mr_image.specs.Images.{Layout, stripe_symbols}
use Rattle.mr_scrub.specs.Stripes.{symbols_of, fault}
use Rattle.mr_scrub.specs.Scans.{stripe_bytes, stripe_at, no_code, code_at, fault_of, faults_in, ScansStripes}

-- slot k of n / size ends within n
pub stripe_end : (k n size : ℕ) → k < n / size → k * size + size ≤ n
stripe_end k n size low =
    let next : suc k ≤ n / size = omega (arith, low) in
    omega (arith, mul-le-mul_right size next, suc-mul k size, div-mul-le_self n size)

-- the first fault of the stripe that was read
pub fault-here : (codes : List Code) (l : Layout) (first k n b : ℕ) (bytes : List ℕ) (own : Code) (r : Option ℕ)
    → n ≡ stripe_symbols l → b ≡ l.symbol_bytes → own ≡ get_or codes ((first + k) % length codes) own → (first + k) % length codes < length codes
    → length own.rows ≡ stripe_symbols l
    → r ≡ fault own b (symbols_of (length own.rows) b (take (k * (n * b) + n * b - k * (n * b)) (drop (k * (n * b)) bytes)))
    → r ≡ fault_of codes l first bytes k
unfolding fault_of stripe_at
fault-here codes l first k n b bytes own r count size is low rows e =
    let here : own ≡ code_at codes (first + k) = is ∙ get_or_default codes ((first + k) % length codes) own no_code low in
    let len : k * (n * b) + n * b - k * (n * b) ≡ n * b = omega arith in
    let whole : k * (n * b) + n * b - k * (n * b) ≡ stripe_symbols l * l.symbol_bytes = len ∙ (λ j. count j * size j) in
    e ∙ (λ j. fault (here j) (size j) (symbols_of (rows j) (size j) (take (whole j) (drop (k * (count j * size j)) bytes))))

-- each stripe of the scan is there
pub scans-each : (codes : List Code) (l : Layout) (bytes : List ℕ) (size : ℕ) → 0 < length codes → All (λ m. length m.rows ≡ stripe_symbols l) codes → size ≡ stripe_bytes l
    → All (ScansStripes codes l bytes) (range_with_len 0 (length bytes / size - 0))
scans-each codes l bytes size some shape same = nat_range-All (ScansStripes codes l bytes) 0 (length bytes / size) (λ i low high. record {
  some = some;
  shape = shape;
  here = subst (λ s. i < length bytes / s) same high;
})

-- what the closure gave at each number of the range
pub faults-are : (codes : List Code) (l : Layout) (first size : ℕ) (bytes : List ℕ) (numbers : List ℕ) (faults : List (Option ℕ)) → size ≡ stripe_bytes l
    → numbers ≡ range_with_len 0 (length bytes / size - 0) → AllZip (λ k r. r ≡ fault_of codes l first bytes k) numbers faults
    → faults ≡ faults_in codes l first bytes
faults-are codes l first size bytes numbers faults same range zip =
    AllZip-map (fault_of codes l first bytes) numbers faults zip
    ∙ ap (map (fault_of codes l first bytes)) (range ∙ ap (range_with_len 0) (whole ∙ ap (λ s. length bytes / s) same))
  where
    whole : length bytes / size - 0 ≡ length bytes / size
    whole = omega arith
