-- The prices of a code, bit by bit.
use Rattle.std.specs.Prelude.{◌≡◌, ℕ, ◌-◌, ◌^◌, ◌<◌, ◌≤◌, List, length, slice_index}
use Rattle.std.specs.Int.{bit_at}
use Rattle.mr_model.specs.Code.{Code, symbol_prices}

-- the members of the plane are the places of the numbers whose bit b is 1
abbrev pub IsPlane : List ℕ → ℕ → ℕ → Type 0
IsPlane ps b plane = (i : ℕ) → bit_at plane i ≡ bit_at (slice_index ps i) b

-- each number is below 2 to the power of how many planes there are, and these are the planes of its
-- bits, the highest first
pub record ArePlanesOf (ps planes : List ℕ) : Type 0 where
  pub few : length planes ≤ 10
  pub high : (i : ℕ) → slice_index ps i < 2 ^ length planes
  pub each : (k : ℕ) → k < length planes → IsPlane ps (length planes - 1 - k) (slice_index planes k)

-- the planes of the prices of the symbols of a code
abbrev pub ArePlanes : Code → List ℕ → Type 0
ArePlanes m planes = ArePlanesOf (symbol_prices m) planes
