-- How a matrix is kept: its shape, and room for the rows and the prices of 128 symbols and devices.
use Rattle.std.specs.Prelude.{◌≡◌, ℕ, ◌-◌, ◌*◌, ◌^◌, ◌<◌, ◌≤◌, List, ◌++◌, All, take, length, replicate}
use Rattle.mr_model.specs.Code.{Code, Dimensions, IsDimensions, dimensions, most_symbols, greatest_price}

-- the symbols of a code of these dimensions
abbrev pub symbol_count : Dimensions → ℕ
symbol_count d = d.devices * d.symbols_per_device

-- the numbers, and zeros behind them in the room of a matrix
abbrev pub padded : List ℕ → List ℕ
padded numbers = numbers ++ replicate (most_symbols - length numbers) 0

-- each number is the price of a device
abbrev pub IsPriceList : List ℕ → Type 0
IsPriceList = All (λ p. (1 ≤ p) × (p ≤ greatest_price))

-- what it costs at most to read any symbols of a matrix
abbrev pub greatest_cost : ℕ
greatest_cost = most_symbols * greatest_price

-- Rows and prices of these dimensions: the rows of the symbols have columns of the code alone, the
-- prices of the devices are prices, and what stands behind them is zero.
pub record IsMatrix (d : Dimensions) (rows prices : List ℕ) : Type 0 where
  pub shape : IsDimensions d
  pub room : length rows ≡ most_symbols
  pub columns : All (λ r. r < 2 ^ d.columns) (take (symbol_count d) rows)
  pub unused : padded (take (symbol_count d) rows) ≡ rows
  pub price_room : length prices ≡ most_symbols
  pub priced : IsPriceList (take d.devices prices)
  pub unused_prices : padded (take d.devices prices) ≡ prices

-- the codes that a matrix can be: within the limits, with a row of its columns for each symbol, and
-- a price for each device
pub record IsMatrixCode (m : Code) : Type 0 where
  pub shape : IsDimensions (dimensions m)
  pub count : length m.rows ≡ m.devices * m.symbols_per_device
  pub columns : All (λ r. r < 2 ^ m.columns) m.rows
  pub price_count : length m.prices ≡ m.devices
  pub priced : IsPriceList m.prices
