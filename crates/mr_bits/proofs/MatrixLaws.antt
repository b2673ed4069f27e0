-- What holds of each code that a matrix can be: a symbol stands on one of its devices, and costs from 1 to 1,000.
use Rattle.std.proofs.Common.{ℕ, ◌/◌, ◌<◌, ◌≤◌, length, arith, ⊎_elim}
use Rattle.std.specs.Prelude.{slice_index}
use Rattle.std.proofs.Math.Nat.{div-lt_iff_lt-mul}
use Rattle.std.proofs.lemmas.Bool.{cases_lt}
use Rattle.std.proofs.lemmas.List.{get_or_past}
use Rattle.mr_model.specs.Code.{Code, symbol_prices, cost, greatest_price}
use Rattle.mr_model.proofs.Prices.{IsPriced, symbol_prices-at, length-symbol_prices}
use Rattle.mr_model.proofs.CostLaws.{cost-most}
use Rattle.mr_bits.specs.Matrices.{IsMatrixCode, greatest_cost}

pub symbol-device : (m : Code) → IsMatrixCode m → (i : ℕ) → i < length m.rows → i / m.symbols_per_device < m.devices
symbol-device m h i low =
    let some : 0 < m.symbols_per_device = h.shape.some_symbols in
    (div-lt_iff_lt-mul some).1 (omega (arith, low, h.count))

-- the price of a device
pub device-price : (m : Code) → IsMatrixCode m → (d : ℕ) → d < m.devices → (1 ≤ slice_index m.prices d) × (slice_index m.prices d ≤ greatest_price)
device-price m h d low = h.priced d 0 (omega (arith, low, h.price_count))

-- each symbol has a price of at least 1
pub matrix-priced : (m : Code) → IsMatrixCode m → IsPriced m
matrix-priced m h i low = (device-price m h (i / m.symbols_per_device) (symbol-device m h i low)).0

-- no symbol has a price above the greatest
pub matrix-price : (m : Code) → IsMatrixCode m → (i : ℕ) → slice_index (symbol_prices m) i ≤ greatest_price
matrix-price m h i = ⊎_elim
    (λ (low : i < length m.rows). omega (arith, symbol_prices-at m i low, (device-price m h (i / m.symbols_per_device) (symbol-device m h i low)).1))
    (λ (high : length m.rows ≤ i). omega (arith, get_or_past (symbol_prices m) i 0 (omega (arith, high, length-symbol_prices m))))
    (cases_lt i (length m.rows))

-- no set costs more than the greatest cost
pub matrix-cost : (m : Code) → IsMatrixCode m → (x : ℕ) → cost m x ≤ greatest_cost
matrix-cost m h x = omega (arith, cost-most m x (matrix-price m h), h.count, h.shape.few_symbols)
