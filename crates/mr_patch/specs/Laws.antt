-- What is proved of patched files.
use Rattle.std.specs.Prelude.{◌≡◌, ℕ, List}
use Rattle.mr_image.specs.Images.{image_of}
use Rattle.mr_patch.specs.Damages.{DamageParts, IsDetermined, OthersFrom, code_file, patched_file}

-- Whatever budget, image and data: where the symbols that do not fail determine the others and come from the data, the patched
-- file is that of the codewords.
pub record GivesCodeFiles (d : DamageParts) : Type 0 where
  pub file : (budget : ℕ) (bytes : List ℕ) (columns : ℕ → List (List ℕ)) → IsDetermined d
      → OthersFrom d (image_of d.layout bytes) columns
      → patched_file d budget bytes ≡ code_file d columns
