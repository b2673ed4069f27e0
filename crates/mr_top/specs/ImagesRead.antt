-- What is known of what a rebuild read before the script.
use Rattle.std.specs.Option.{ForSome}
use Rattle.std.specs.Prelude.{IfSome, List, Option, length, ℕ, ◌<◌, ◌^◌, ◌≡◌}
use Rattle.mr_bits.specs.Matrices.{IsMatrixCode}
use Rattle.mr_choices.specs.Rotations.{losses_of}
use Rattle.mr_image.specs.Heads.{file_bytes}
use Rattle.mr_image.specs.Images.{Layout}
use Rattle.mr_image.specs.Rotated.{FitsCode, rotations}
use Rattle.mr_io.specs.Telling.{Told}
use Rattle.mr_model.specs.Plans.{IsValidPlan}
use Rattle.mr_plan.specs.Plans.{survivors}
use Rattle.mr_top.specs.declared.image_read.ImageRead.{ImageRead}

-- The problems are those of the lost symbols in each rotation in use, a plan that was handed in is
-- valid for them and for an image of version 1, and the head is that of an image of the matrix.
pub record IsImageRead (read : ImageRead) : Type 0 where
  pub code : IsMatrixCode read.matrix
  pub losses : read.problems.items ≡ losses_of read.matrix read.lost (rotations read.head)
  pub below : read.lost < 2 ^ length read.matrix.rows
  pub handed : IfSome read.handed
      (λ chosen. IsValidPlan read.matrix (survivors read.matrix read.lost) read.lost
      chosen.plan.set chosen.plan.recipes)
  pub version : IfSome read.handed (λ _. read.head.version ≡ 1)
  pub fits : FitsCode read.head read.matrix

-- the file of the image, where it is told, has the length that the layout names
abbrev pub HasFile : Option Told → List ℕ → Layout → Type 0
HasFile told image l = ForSome told (λ t. length (t.contents image) ≡ file_bytes l)
