-- Images whose devices move on with each stripe: the codes of their stripes, how one is made of an
-- image of version 1, and of which codewords it is.
use Rattle.std.specs.Prelude.{◌≡◌, ℕ, ◌%◌, ◌<◌, ◌==◌, max, min, List, if◌then◌else◌}
use Rattle.mr_model.specs.Code.{Code}
use Rattle.mr_model.specs.Rotations.{moved, rotated}
use Rattle.mr_bits.specs.Matrices.{IsMatrixCode}
use Rattle.mr_image.specs.Images.{Layout, stripe_symbols, Image, image_of, code_image}
use Rattle.mr_image.specs.Heads.{image_bytes, with_version}

-- ---- the codes of the stripes

-- In version 1 each stripe has the code itself. In version 2 the devices of the code move on by one
-- with each stripe.
abbrev pub codes_by : Layout → Code → ℕ → Code
codes_by l m s = if l.version == 2 then rotated m (s % m.devices) else m

-- how many rotations are in use: those below it, of which there is at least that by 0
abbrev pub rotations : Layout → ℕ
rotations l = if l.version == 2 then max 1 (min l.devices l.stripes) else 1

-- the layout has the devices of the code, and the symbols of each
pub record FitsCode (l : Layout) (m : Code) : Type 0 where
  pub devices : l.devices ≡ m.devices
  pub symbols : l.symbols_per_device ≡ m.symbols_per_device

-- ---- the image of version 2 that is made of one of version 1

-- the image whose devices have moved on, in stripe s by s
unfoldable pub converted : Layout → Image → ℕ → ℕ → List ℕ
converted l image s i = image s (moved l.devices l.symbols_per_device (s % l.devices) i)

-- the file of version 2 that is made of the file of an image
abbrev pub converted_file : Layout → List ℕ → List ℕ
converted_file l bytes = image_bytes (with_version 2 l) (converted l (image_of l bytes))

-- each symbol of the image is that of the codewords of the data
pub record IsCodeImage (l : Layout) (codes : ℕ → Code) (image : Image)
    (columns : ℕ → List (List ℕ)) : Type 0 where
  pub same : (s i : ℕ) → s < l.stripes → i < stripe_symbols l
      → image s i ≡ code_image l codes columns s i

-- Whatever data an image of version 1 comes from: the image made of it comes from the same data.
pub record KeepsCodewords (l : Layout) : Type 0 where
  pub images : (m : Code) (image : Image) (columns : ℕ → List (List ℕ))
      → IsMatrixCode m → FitsCode l m → l.version ≡ 1
      → IsCodeImage l (codes_by l m) image columns
      → IsCodeImage (with_version 2 l) (codes_by (with_version 2 l) m) (converted l image) columns
