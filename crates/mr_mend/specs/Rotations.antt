-- The plans of all rotations in use, and what they make of images whose survivors come from data.
use Rattle.std.specs.Prelude.{◌≡◌, ℕ, ◌<◌, List, length}
use Rattle.std.specs.Int.{bit_at}
use Rattle.mr_model.specs.Code.{Code}
use Rattle.mr_model.specs.Plans.{IsValidPlan}
use Rattle.mr_bits.specs.Matrices.{IsMatrixCode}
use Rattle.mr_image.specs.Images.{Layout, stripe_symbols, Image, every_stripe, mended, near, singles_of, code_image, ComeFrom}
use Rattle.mr_image.specs.Heads.{image_bytes}
use Rattle.mr_image.specs.Rotated.{FitsCode, codes_by, rotations}
use Rattle.mr_plan.specs.Plans.{PlanParts, survivors}
use Rattle.mr_plan.specs.PlanLists.{plan_at, recipes_at}

-- one plan for each rotation in use, valid for the code of that rotation; the first stripes have one
-- rotation each
pub record AreValidPlans (l : Layout) (m : Code) (lost : ℕ) (plans : List PlanParts)
    : Type 0 where
  pub count : length plans ≡ rotations l
  pub valid : (r : ℕ) → r < rotations l
      → IsValidPlan (codes_by l m r) (survivors m lost) lost (plan_at plans r).set
      (recipes_at plans r)

-- The image's survivors come from the data: each is the codeword's symbol of the code of its stripe.
abbrev pub SurvivorsFrom : Layout → Code → ℕ → Image → (ℕ → List (List ℕ)) → Type 0
SurvivorsFrom l m lost image columns =
    ComeFrom l (codes_by l m) (every_stripe (survivors m lost)) image columns

-- Whatever code, loss and data: where the plan of each rotation is valid and the survivors of an
-- image come from the data, the mended image is that of the codewords, symbol by symbol and as a
-- file, and so is each near reply for a lost symbol.
pub record GivesRotated (l : Layout) : Type 0 where
  pub symbols : (m : Code) (lost : ℕ) (plans : List PlanParts) (image : Image)
      (columns : ℕ → List (List ℕ)) → IsMatrixCode m → FitsCode l m
      → AreValidPlans l m lost plans → SurvivorsFrom l m lost image columns
      → (s i : ℕ) → s < l.stripes → i < stripe_symbols l
      → mended l (recipes_at plans) image s i ≡ code_image l (codes_by l m) columns s i
  pub file : (m : Code) (lost : ℕ) (plans : List PlanParts) (image : Image)
      (columns : ℕ → List (List ℕ)) → IsMatrixCode m → FitsCode l m
      → AreValidPlans l m lost plans → SurvivorsFrom l m lost image columns
      → image_bytes l (mended l (recipes_at plans) image)
      ≡ image_bytes l (code_image l (codes_by l m) columns)
  pub replies : (m : Code) (lost : ℕ) (plans : List PlanParts) (image : Image)
      (columns : ℕ → List (List ℕ)) → IsMatrixCode m → FitsCode l m
      → AreValidPlans l m lost plans → SurvivorsFrom l m lost image columns
      → (budget s t : ℕ) → s < l.stripes → t < stripe_symbols l → bit_at lost t ≡ 1
      → near l (singles_of (codes_by l m) (every_stripe (survivors m lost)) budget) image s t
      ≡ code_image l (codes_by l m) columns s t
