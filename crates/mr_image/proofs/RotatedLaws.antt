-- The codes of the stripes, and the image that is made of one of version 1.
use Rattle.std.proofs.Common.{◌≡◌, ℕ, ◌*◌, ◌%◌, ◌<◌, ◌≤◌, ◌==◌, Bool, true, false, cond, List, length, max, min, refl, sym, ap, ◌∙◌, ⊎_elim, arith, mod-eq_of_lt}
use Rattle.std.proofs.lemmas.Bool.{cases_lt}
use Rattle.std.proofs.lemmas.Nat.{mod_below}
use Rattle.mr_model.specs.Code.{Code}
use Rattle.mr_model.specs.Codewords.{codeword}
use Rattle.mr_model.specs.Rotations.{moved, rotated}
use Rattle.mr_model.proofs.RotationLaws.{moved-lt, codeword-rotated, count-rotated}
use Rattle.mr_bits.specs.Matrices.{IsMatrixCode}
use Rattle.mr_bits.proofs.RotatedRows.{matrix-rotated}
use Rattle.mr_image.specs.Images.{Layout, stripe_symbols, Image}
use Rattle.mr_image.specs.Heads.{with_version}
use Rattle.mr_image.specs.Laws.{AreCodesOf}
use Rattle.mr_image.specs.Rotated.{codes_by, rotations, converted, FitsCode, IsCodeImage, KeepsCodewords}

-- what holds of the code and of each of its rotations holds of the code of each stripe
pub codes-each : (P : Code → Type 0) (l : Layout) (m : Code) (s : ℕ) → 1 ≤ m.devices → P m → ((r : ℕ) → r < m.devices → P (rotated m r)) → P (codes_by l m s)
codes-each P l m s some one each = go (l.version == 2)
  where
    go : (b : Bool) → P (cond b (rotated m (s % m.devices)) m)
    go true = each (s % m.devices) (mod_below s m.devices some)
    go false = one

-- the codes of the stripes are of matrices with the devices and the symbols of the layout
pub codes-of : (l : Layout) (m : Code) → IsMatrixCode m → FitsCode l m → AreCodesOf l (codes_by l m)
unfolding rotated
codes-of l m is fits = record {
  matrix = λ s here. codes-each IsMatrixCode l m s is.shape.some_devices is (λ r low. matrix-rotated m r is (omega arith));
  same_devices = λ s here. codes-each (λ k. k.devices ≡ l.devices) l m s is.shape.some_devices (sym fits.devices) (λ r low. sym fits.devices);
  same_symbols = λ s here. codes-each (λ k. k.symbols_per_device ≡ l.symbols_per_device) l m s is.shape.some_devices (sym fits.symbols) (λ r low. sym fits.symbols);
}

-- each code of a stripe has as many rows
pub codes-count : (l : Layout) (m : Code) (s : ℕ) → 1 ≤ m.devices → length (codes_by l m s).rows ≡ length m.rows
codes-count l m s some = codes-each (λ k. length k.rows ≡ length m.rows) l m s some refl (λ r low. count-rotated m r)

-- the code of the rotation r, which is that of the stripe r
pub codes-rotation : (l : Layout) (m : Code) (r : ℕ) → l.version ≡ 2 → r < m.devices → codes_by l m r ≡ rotated m r
codes-rotation l m r second low = ap (λ v. cond (v == 2) (rotated m (r % m.devices)) m) second ∙ ap (rotated m) (mod-eq_of_lt low)

-- in version 1 it is the code itself
pub codes-first : (l : Layout) (m : Code) (s : ℕ) → l.version ≡ 1 → codes_by l m s ≡ m
codes-first l m s first = ap (λ v. cond (v == 2) (rotated m (s % m.devices)) m) first

-- the rotations in use are some, and no more than the devices
pub rotations-some : (l : Layout) → 1 ≤ rotations l
rotations-some l = go (l.version == 2)
  where
    go : (b : Bool) → 1 ≤ cond b (max 1 (min l.devices l.stripes)) 1
    go true = omega arith
    go false = omega arith

pub rotations-few : (l : Layout) → 1 ≤ l.devices → rotations l ≤ l.devices
rotations-few l some = go (l.version == 2)
  where
    go : (b : Bool) → cond b (max 1 (min l.devices l.stripes)) 1 ≤ l.devices
    go true = omega arith
    go false = omega arith

-- a stripe in range and its rotation in use have one remainder
around : (n stripes s : ℕ) → 1 ≤ n → s < stripes → s % n ≡ s % max 1 (min n stripes) % n
around n stripes s some here = ⊎_elim
    (λ (few : stripes < n).
    let all : max 1 (min n stripes) ≡ stripes = omega arith in
    ap (λ k. k % n) (sym (ap (λ k. s % k) all ∙ mod-eq_of_lt here)))
    (λ (many : n ≤ stripes).
    let all : max 1 (min n stripes) ≡ n = omega arith in
    sym (ap (λ k. s % k % n) all ∙ mod-eq_of_lt (mod_below s n some)))
    (cases_lt stripes n)

-- the code of a stripe is that of its rotation
pub codes-at : (l : Layout) (m : Code) (s : ℕ) → 1 ≤ l.devices → l.devices ≡ m.devices → s < l.stripes → codes_by l m s ≡ codes_by l m (s % rotations l)
codes-at l m s some same here = go (l.version == 2)
  where
    go : (b : Bool) → cond b (rotated m (s % m.devices)) m ≡ cond b (rotated m (s % cond b (max 1 (min l.devices l.stripes)) 1 % m.devices)) m
    go true = ap (rotated m) (ap (λ n. s % n) (sym same) ∙ around l.devices l.stripes s some here ∙ ap (λ n. s % max 1 (min l.devices l.stripes) % n) same)
    go false = refl

-- ---- the image of version 2

module _ (l : Layout) (m : Code) (image : Image) (columns : ℕ → List (List ℕ)) (is : IsMatrixCode m) (fits : FitsCode l m) (first : l.version ≡ 1) where
  pub converted-code : IsCodeImage l (codes_by l m) image columns → IsCodeImage (with_version 2 l) (codes_by (with_version 2 l) m) (converted l image) columns
  unfolding converted
  converted-code from = record {
    same = λ s i here low.
        let r : ℕ = s % l.devices in
        let some : 1 ≤ l.devices = omega (arith, fits.devices, is.shape.some_devices) in
        let turn : r ≤ l.devices = omega (arith, mod_below s l.devices some) in
        let stood : ℕ = moved l.devices l.symbols_per_device r i in
        let there : stood < stripe_symbols l = moved-lt l.devices l.symbols_per_device r (omega (arith, fits.symbols, is.shape.some_symbols)) turn i low in
        let count : stripe_symbols l ≡ m.devices * m.symbols_per_device = λ j. fits.devices j * fits.symbols j in
        let inside : i < length m.rows = omega (arith, low, is.count, count) in
        from.same s stood here there
        ∙ ap (λ k. codeword k l.symbol_bytes (columns s) stood) (codes-first l m s first)
        ∙ (λ j. codeword m l.symbol_bytes (columns s) (moved (fits.devices j) (fits.symbols j) (s % fits.devices j) i))
        ∙ sym (codeword-rotated m (s % m.devices) l.symbol_bytes (columns s) i inside);
  }

pub keeps-codewords : (l : Layout) → KeepsCodewords l
keeps-codewords l = record { images = converted-code l }

-- an image of version 1 has one rotation
pub rotations-one : (l : Layout) → l.version ≡ 1 → rotations l ≡ 1
rotations-one l version = ap (λ v. cond (v == 2) (max 1 (min l.devices l.stripes)) 1) version
