-- What the mending of one stripe makes of the bytes of a file.
use Rattle.std.specs.Prelude.{◌≡◌, ◌≢◌, ℕ, ◌<◌, List, take, true}
use Rattle.mr_model.specs.Plans.{Recipe}
use Rattle.mr_image.specs.Images.{Layout, stripe_symbols, Image, image_of, every_stripe, mended}
use Rattle.mr_image.specs.declared.limits.TheConstants.{HEAD_BYTES}
use Rattle.mr_mend.specs.Mending.{has_recipe}

-- each symbol of stripe s with a recipe stands there as the recipes make it of the image
pub record HoldsRebuilt (l : Layout) (recipes : List Recipe) (s : ℕ) (image : Image) (bytes : List ℕ)
    : Type 0 where
  pub same : (i : ℕ) → has_recipe recipes i ≡ true
      → image_of l bytes s i ≡ mended l (every_stripe recipes) image s i

-- the head and the other stripes stand as before
pub record KeepsStripes (l : Layout) (s : ℕ) (before now : List ℕ) : Type 0 where
  pub others : (t i : ℕ) → t ≢ s → i < stripe_symbols l → image_of l now t i ≡ image_of l before t i
  pub front : take HEAD_BYTES now ≡ take HEAD_BYTES before
