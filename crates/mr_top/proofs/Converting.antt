-- The chain of `convert` and what it accepts.
use Rattle.std.proofs.Common.{◌≡◌, ℕ, List, Option, Some, IfSome, Result, Ok, refl, sym, ◌∙◌, ap, subst}
use Rattle.mr_image.specs.Images.{Layout}
use Rattle.mr_image.specs.Rotated.{converted_file}
use Rattle.mr_model.specs.Code.{Code}
use Rattle.mr_steps.specs.Refusals.{followed_by}
use Rattle.mr_steps.specs.Sinks.{Output}
use Rattle.mr_steps.specs.Texts.{matrix_given}
use Rattle.mr_steps.specs.declared.fault.Fault.{Fault}
use Rattle.mr_steps.proofs.Results.{nest}
use Rattle.mr_top.specs.Convert.{convert_accepted, convert_answer, converted_output, first_version}
use Rattle.mr_top.specs.Encode.{image_written}
use Rattle.mr_top.specs.Rebuild.{head_given}
use Rattle.mr_top.proofs.WholeImages.{given_of_code, given_of_layout, whole-is}

module _ (contents : List ℕ → List ℕ) (matrix image : List ℕ) where
  abbrev file_of_layout : Layout → Result (List ℕ) Fault
  file_of_layout l = followed_by (first_version l) (λ first. Ok (converted_file first (contents image)))

  abbrev file_of_code : Code → Result (List ℕ) Fault
  file_of_code m = followed_by (head_given m (contents image)) file_of_layout

  abbrev all_written : List ℕ → Result Output Fault
  all_written file = Ok (image_written file)

  pub convert-is : (convert_answer contents matrix image).result ≡ followed_by (convert_accepted contents matrix image) all_written
  convert-is =
      whole-is first_version (λ _. converted_output) contents matrix image
      ∙ sym (nest (matrix_given (contents matrix)) file_of_code all_written (given_of_code first_version (λ _. converted_output) contents matrix image) (λ m.
      nest (head_given m (contents image)) file_of_layout all_written (given_of_layout first_version (λ _. converted_output) contents matrix image m) (λ l.
      nest (first_version l) (λ first. Ok (converted_file first (contents image))) all_written (λ first. Ok (converted_output first (contents image))) (λ _. refl))))

-- what is written of a file that is told
pub converted-told : (told : Option (List ℕ)) (l : Layout) (file : List ℕ) → IfSome told (λ bytes. file ≡ converted_file l bytes)
    → (bytes : List ℕ) → told ≡ Some bytes → ◌≡◌ {A = Result Output Fault} (Ok (converted_output l bytes)) (Ok (image_written file))
converted-told told l file made bytes there =
    let is : file ≡ converted_file l bytes = subst (λ o. IfSome o (λ b. file ≡ converted_file l b)) there made in
    ap (λ (f : List ℕ). Ok (image_written f)) (sym is)
