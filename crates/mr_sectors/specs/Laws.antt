-- What is proved of the image that a repair writes.
use Rattle.std.specs.Prelude.{◌≡◌, ℕ, List}
use Rattle.mr_image.specs.Images.{image_of}
use Rattle.mr_patch.specs.Damages.{DamageParts, IsDetermined, OthersFrom, code_file}
use Rattle.mr_sectors.specs.Repairs.{repair_output}

-- Whatever budget, image and data: where the symbols that do not fail determine the others and come from the
-- data, the image that is written is that of the codewords.
pub record WritesCodewords (d : DamageParts) : Type 0 where
  pub written : (budget : ℕ) (bytes : List ℕ) (columns : ℕ → List (List ℕ)) → IsDetermined d
      → OthersFrom d (image_of d.layout bytes) columns
      → (repair_output d budget bytes).out ≡ code_file d columns
