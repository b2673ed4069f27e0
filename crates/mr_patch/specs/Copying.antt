-- The symbols that do not fail, copied.
use Rattle.std.specs.Prelude.{◌≡◌, ℕ, ◌<◌, List, take}
use Rattle.std.specs.Int.{bit_at}
use Rattle.mr_image.specs.Images.{stripe_symbols, Image, image_of}
use Rattle.mr_image.specs.declared.limits.TheConstants.{HEAD_BYTES}
use Rattle.mr_patch.specs.Damages.{DamageParts, failed_at}

-- each symbol that does not fail stands there as the image has it
pub record HoldsOthers (d : DamageParts) (image : Image) (bytes : List ℕ) : Type 0 where
  pub same : (s i : ℕ) → s < d.layout.stripes → i < stripe_symbols d.layout
      → bit_at (failed_at d s) i ≡ 0 → image_of d.layout bytes s i ≡ image s i

-- the head, and each symbol that fails, stand there as before
pub record KeepsFailed (d : DamageParts) (before now : List ℕ) : Type 0 where
  pub same : (s i : ℕ) → s < d.layout.stripes → i < stripe_symbols d.layout
      → bit_at (failed_at d s) i ≡ 1 → image_of d.layout now s i ≡ image_of d.layout before s i
  pub front : take HEAD_BYTES now ≡ take HEAD_BYTES before
