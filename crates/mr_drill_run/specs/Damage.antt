-- Symbols that are lost in the bytes of an image file: every byte of them is zero.
use Rattle.std.specs.Prelude.{◌≡◌, ◌≢◌, ℕ, ◌<◌, ◌≤◌, ◌⊎◌, List, replicate, take}
use Rattle.std.specs.Int.{bit_at}
use Rattle.mr_image.specs.Images.{Layout, image_of, stripe_symbols}
use Rattle.mr_image.specs.declared.limits.TheConstants.{HEAD_BYTES}

-- Symbol i of stripe s was cleared; all others, and the head, are as before.
pub record ClearsSymbol (l : Layout) (s i : ℕ) (before now : List ℕ) : Type 0 where
  pub cleared : image_of l now s i ≡ replicate l.symbol_bytes 0
  pub others : (t j : ℕ) → j < stripe_symbols l → (t ≡ s → j ≢ i)
      → image_of l now t j ≡ image_of l before t j
  pub front : take HEAD_BYTES now ≡ take HEAD_BYTES before

-- Of the stripes from first to before the end the lost symbols below n were cleared; all others, and
-- the head, are as before.
pub record Clears (l : Layout) (lost first «end» n : ℕ) (before now : List ℕ) : Type 0 where
  pub cleared : (s i : ℕ) → first ≤ s → s < «end» → i < n → bit_at lost i ≡ 1
      → image_of l now s i ≡ replicate l.symbol_bytes 0
  pub others : (s i : ℕ) → i < stripe_symbols l
      → (s < first) ⊎ ((«end» ≤ s) ⊎ ((n ≤ i) ⊎ (bit_at lost i ≡ 0)))
      → image_of l now s i ≡ image_of l before s i
  pub front : take HEAD_BYTES now ≡ take HEAD_BYTES before
