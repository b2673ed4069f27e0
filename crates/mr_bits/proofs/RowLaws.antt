-- The rows of a matrix in their room of 128.
use Rattle.std.proofs.Common.{◌≡◌, ℕ, zero, suc, ◌+◌, ◌-◌, ◌*◌, ◌/◌, ◌%◌, ◌^◌, ◌<◌, ◌≤◌, List, [], ◌∷◌, ◌++◌, length, get_or, take, replicate, refl, set, append_assoc, sym, ap, subst, ◌∙◌, arith, length-take, pow_pos, mod-eq_of_lt, mul-le-mul_right}
use Rattle.std.proofs.Math.Nat.{mul-lt-mul_of_pos_right}
use Rattle.std.proofs.Math.Pow.{pow_mono}
use Rattle.std.proofs.lemmas.Nat.{pow-add}
use Rattle.std.proofs.Math.Seq.{set-append_seam}
use Rattle.std.proofs.lemmas.List.{take_more}
use Rattle.std.proofs.lemmas.Nat.Bits.{ones_shr}
use Rattle.mr_model.specs.Code.{Dimensions, priced_code}
use Rattle.mr_bits.specs.Matrices.{symbol_count, padded, IsMatrix, IsMatrixCode}

-- one row more in the room
pub padded-more : (rows : List ℕ) (i : ℕ) → i < length rows → length rows ≤ 128
    → set (padded (take i rows)) i (get_or rows i 0) ≡ padded (take (i + 1) rows)
padded-more rows i within few =
    let count : length (take i rows) ≡ i = omega (arith, length-take i rows) in
    let more : length (take (i + 1) rows) ≡ i + 1 = omega (arith, length-take (i + 1) rows) in
    let left : 128 - i ≡ suc (128 - (i + 1)) = omega arith in
    let front = take i rows in
    let rest = replicate (128 - (i + 1)) 0 in
    ap (λ n. set (front ++ replicate (128 - n) 0) i (get_or rows i 0)) count
    ∙ ap (λ n. set (front ++ replicate n 0) i (get_or rows i 0)) left
    ∙ ap (λ n. set (front ++ 0 ∷ rest) n (get_or rows i 0)) (sym count)
    ∙ set-append_seam front 0 rest (get_or rows i 0)
    ∙ sym (append_assoc front (get_or rows i 0 ∷ []) rest)
    ∙ ap (λ l. l ++ rest) (sym (take_more rows i 0 within))
    ∙ ap (λ n. take (i + 1) rows ++ replicate (128 - n) 0) (sym more)

-- the ones below n, by a shift of all ones
pub low_ones : (n : ℕ) → n ≤ 128 → (2 ^ 128 - 1) / 2 ^ (128 - n) ≡ 2 ^ n - 1
low_ones n few = ones_shr 128 (128 - n) (omega arith) ∙ ap (λ k. 2 ^ k - 1) (omega arith)

small_device : (w d : ℕ) → d * w + w ≤ 128 → (2 ^ w - 1) * 2 ^ (d * w) < 2 ^ 128
small_device w d fits =
    let positive = pow_pos (d * w) in
    let wide = pow_pos w in
    let less : 2 ^ w - 1 < 2 ^ w = omega arith in
    let sum : w + d * w ≤ 128 = omega arith in
    let whole : 2 ^ w * 2 ^ (d * w) ≤ 2 ^ 128 = subst (λ v. v ≤ 2 ^ 128) (pow-add 2 w (d * w)) (pow_mono sum) in
    omega (arith, mul-lt-mul_of_pos_right less positive)

-- the symbols of a device, by two shifts
pub device_ones : (n w d : ℕ) → d < n → n * w ≤ 128 → 1 ≤ w → (2 ^ 128 - 1) / 2 ^ (128 - w) * 2 ^ (d * w) % 2 ^ 128 ≡ (2 ^ w - 1) * 2 ^ (d * w)
device_ones n w d within few some =
    let fits : d * w + w ≤ 128 = omega (arith, mul-le-mul_right w within) in
    let small : (2 ^ w - 1) * 2 ^ (d * w) < 2 ^ 128 = small_device w d fits in
    ap (λ v. v * 2 ^ (d * w) % 2 ^ 128) (low_ones w (omega arith)) ∙ mod-eq_of_lt small

-- the rows of a matrix are as many as its symbols
pub row_count : (d : Dimensions) (rows prices : List ℕ) → IsMatrix d rows prices → length (take (symbol_count d) rows) ≡ symbol_count d
row_count d rows prices h = let few = h.shape.few_symbols in omega (arith, length-take (symbol_count d) rows, h.room)

pub devices-few : (n w : ℕ) → 1 ≤ w → n ≤ n * w
devices-few n zero some = absurd (omega arith)
devices-few n (suc w) some = omega arith

-- there is a price for each device
pub price_count : (d : Dimensions) (rows prices : List ℕ) → IsMatrix d rows prices → length (take d.devices prices) ≡ d.devices
price_count d rows prices h =
    let few = devices-few d.devices d.symbols_per_device h.shape.some_symbols in
    omega (arith, length-take d.devices prices, h.price_room, few, h.shape.few_symbols)

-- what a matrix keeps is a code within the limits
pub matrix-code : (d : Dimensions) (rows prices : List ℕ) → IsMatrix d rows prices
    → IsMatrixCode (priced_code d (take (symbol_count d) rows) (take d.devices prices))
matrix-code d rows prices h = record {
  shape = h.shape;
  count = row_count d rows prices h;
  columns = h.columns;
  price_count = price_count d rows prices h;
  priced = h.priced;
}

pub take-ones : (m n : ℕ) → n ≤ m → take n (replicate m 1) ≡ replicate {A = ℕ} n 1
take-ones zero zero few = refl
take-ones zero (suc n) few = absurd (omega arith)
take-ones (suc m) zero few = refl
take-ones (suc m) (suc n) few = ap (λ (ps : List ℕ). 1 ∷ ps) (take-ones m n (omega arith))
