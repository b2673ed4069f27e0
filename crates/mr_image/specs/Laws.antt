-- What is proved of images in files, of mended images and of near replies.
use Rattle.std.specs.Prelude.{◌≡◌, ℕ, ◌<◌, List, length}
use Rattle.std.specs.Int.{bit_at}
use Rattle.mr_model.specs.Code.{Code}
use Rattle.mr_model.specs.Plans.{Recipe}
use Rattle.mr_bits.specs.Matrices.{IsMatrixCode}
use Rattle.mr_image.specs.Images.{Layout, stripe_symbols, Image, image_of, mended, near, singles_of, code_image, ComeFrom, AreValid}
use Rattle.mr_image.specs.Heads.{image_bytes}

-- the code of each stripe is that of a matrix with the devices and the symbols of the layout
pub record AreCodesOf (l : Layout) (codes : ℕ → Code) : Type 0 where
  pub matrix : (s : ℕ) → s < l.stripes → IsMatrixCode (codes s)
  pub same_devices : (s : ℕ) → s < l.stripes → (codes s).devices ≡ l.devices
  pub same_symbols : (s : ℕ) → s < l.stripes → (codes s).symbols_per_device ≡ l.symbols_per_device

-- Whatever codes, plans and data the stripes have: where the plans are valid and the survivors of
-- an image come from the data, each symbol of the mended image is that of the codeword, its file is
-- that of the codewords, and the near reply for each lost symbol is its symbol of the codeword.
pub record GivesCodewords (l : Layout) : Type 0 where
  pub symbols : (codes : ℕ → Code) (survivors lost sets : ℕ → ℕ) (recipes : ℕ → List Recipe)
      (image : Image) (columns : ℕ → List (List ℕ))
      → AreValid l codes survivors lost sets recipes → ComeFrom l codes survivors image columns
      → (s i : ℕ) → s < l.stripes → i < stripe_symbols l
      → mended l recipes image s i ≡ code_image l codes columns s i
  pub file : (codes : ℕ → Code) (survivors lost sets : ℕ → ℕ) (recipes : ℕ → List Recipe)
      (image : Image) (columns : ℕ → List (List ℕ))
      → AreValid l codes survivors lost sets recipes → ComeFrom l codes survivors image columns
      → image_bytes l (mended l recipes image) ≡ image_bytes l (code_image l codes columns)
  pub replies : (codes : ℕ → Code) (survivors lost sets : ℕ → ℕ) (recipes : ℕ → List Recipe)
      (image : Image) (columns : ℕ → List (List ℕ))
      → AreCodesOf l codes → AreValid l codes survivors lost sets recipes
      → ComeFrom l codes survivors image columns
      → (budget s t : ℕ) → s < l.stripes → t < stripe_symbols l → bit_at (lost s) t ≡ 1
      → near l (singles_of codes survivors budget) image s t ≡ code_image l codes columns s t

-- each symbol of an image has the bytes that the layout names
pub record HasSizes (l : Layout) (image : Image) : Type 0 where
  pub size : (s i : ℕ) → s < l.stripes → i < stripe_symbols l → length (image s i) ≡ l.symbol_bytes

-- Whatever image a file is made of: it holds that image, each symbol at its place.
pub record HoldsImages (l : Layout) : Type 0 where
  pub symbols : (image : Image) → HasSizes l image
      → (s i : ℕ) → s < l.stripes → i < stripe_symbols l
      → image_of l (image_bytes l image) s i ≡ image s i
