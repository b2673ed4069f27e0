-- The commands that read an image file whole: what their chains give.
use Rattle.std.proofs.Common.{◌≡◌, ℕ, List, Result, Ok, refl}
use Rattle.mr_image.specs.Images.{Layout}
use Rattle.mr_model.specs.Code.{Code}
use Rattle.mr_steps.specs.Readings.{Reading, given, ◌>>=◌}
use Rattle.mr_steps.specs.Refusals.{followed_by}
use Rattle.mr_steps.specs.Sinks.{Output}
use Rattle.mr_steps.specs.TextFiles.{matrix_file}
use Rattle.mr_steps.specs.Texts.{matrix_given}
use Rattle.mr_steps.specs.declared.fault.Fault.{Fault}
use Rattle.mr_steps.proofs.Results.{result-as}
use Rattle.mr_top.specs.Rebuild.{head_given}
use Rattle.mr_top.specs.RebuildSteps.{head_file}
use Rattle.mr_top.specs.WholeImages.{allowed_answer, body_answer, image_answer}
use Rattle.mr_top.proofs.Accepting.{head-is, matrix-is}

-- the steps after the layout, after the head and after the matrix
abbrev pub body_next : (Code → Layout → List ℕ → Output) → (List ℕ → List ℕ) → List ℕ → Code → Layout → Reading Output
body_next written contents image m taken = body_answer (written m) contents image taken

abbrev pub layout_next : (Layout → Result Layout Fault) → (Code → Layout → List ℕ → Output) → (List ℕ → List ℕ) → List ℕ → Code → Layout → Reading Output
layout_next allowed written contents image m l = allowed_answer allowed (written m) contents image l

abbrev pub spelled_next : (Layout → Result Layout Fault) → (Code → Layout → List ℕ → Output) → (List ℕ → List ℕ) → List ℕ → Code → Reading Output
spelled_next allowed written contents image m = head_file contents image m >>= layout_next allowed written contents image m

module _ (allowed : Layout → Result Layout Fault) (written : Code → Layout → List ℕ → Output) (contents : List ℕ → List ℕ) (matrix image : List ℕ) where
  abbrev pub given_of_layout : Code → Layout → Result Output Fault
  given_of_layout m l = followed_by (allowed l) (λ taken. Ok (written m taken (contents image)))

  abbrev pub given_of_code : Code → Result Output Fault
  given_of_code m = followed_by (head_given m (contents image)) (given_of_layout m)

  body-is : (m : Code) (taken : Layout) → (body_next written contents image m taken).result ≡ Ok (written m taken (contents image))
  unfolding body_answer
  body-is m taken = refl

  layout-is : (m : Code) (l : Layout) → (layout_next allowed written contents image m l).result ≡ given_of_layout m l
  unfolding allowed_answer
  layout-is m l =
      result-as (given (allowed l)) (body_next written contents image m) (allowed l) (λ taken. Ok (written m taken (contents image))) refl (body-is m)

  pub whole-is : (image_answer allowed written contents matrix image).result ≡ followed_by (matrix_given (contents matrix)) given_of_code
  unfolding image_answer
  whole-is =
      result-as (matrix_file contents matrix) (spelled_next allowed written contents image) (matrix_given (contents matrix)) given_of_code (matrix-is contents matrix) (λ m.
      result-as (head_file contents image m) (layout_next allowed written contents image m) (head_given m (contents image)) (given_of_layout m) (head-is contents image m) (layout-is m))
