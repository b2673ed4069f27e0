-- Laws of scrubs.
use Rattle.std.specs.Prelude.{◌≡◌, ℕ, ◌<◌, List, length, All, IsNone, ◌↔◌}
use Rattle.mr_model.specs.Code.{Code}
use Rattle.mr_bits.specs.Matrices.{IsMatrixCode}
use Rattle.mr_image.specs.Images.{Layout, image_of, stripe_of}
use Rattle.mr_image.specs.Heads.{file_bytes}
use Rattle.mr_image.specs.Rotated.{FitsCode, codes_by}
use Rattle.mr_scrub.specs.Stripes.{IsCodeword, fault}

-- Whatever code and bytes of a file: a stripe of the image that they hold has no fault exactly where it
-- is a codeword.
pub record TellsCodewords (l : Layout) : Type 0 where
  pub stripes : (m : Code) (bytes : List ℕ) → IsMatrixCode m → FitsCode l m
      → length bytes ≡ file_bytes l → All (λ b. b < 256) bytes → (s : ℕ) → s < l.stripes
      → IsNone (fault (codes_by l m s) l.symbol_bytes (stripe_of l (image_of l bytes) s))
      ↔ IsCodeword (codes_by l m s) l.symbol_bytes (stripe_of l (image_of l bytes) s)
