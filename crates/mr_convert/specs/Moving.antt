-- The bytes of a file whose symbols have moved.
use Rattle.std.specs.Prelude.{◌≡◌, ℕ, ◌<◌, List}
use Rattle.mr_image.specs.Images.{Layout, stripe_symbols, image_of}
use Rattle.mr_image.specs.Rotated.{converted}

-- each symbol stands where the image of version 2 has it
pub record HasMoved (l : Layout) (before now : List ℕ) : Type 0 where
  pub same : (s i : ℕ) → s < l.stripes → i < stripe_symbols l
      → image_of l now s i ≡ converted l (image_of l before) s i
