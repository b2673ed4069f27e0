-- The chain of `scrub` and what it accepts.
use Rattle.std.proofs.Common.{◌≡◌, ℕ, List, [], Option, Some, IfSome, Result, Ok, Err, sym, ◌∙◌, ap, subst}
use Rattle.mr_image.specs.Images.{Layout, image_of}
use Rattle.mr_image.specs.Rotated.{codes_by}
use Rattle.mr_io.specs.declared.errors.FilesError.{FilesError}
use Rattle.mr_io.specs.declared.errors.FilesError.TheVariants.{Failed, Memory}
use Rattle.mr_model.specs.Code.{Code}
use Rattle.mr_scrub.specs.Scrubs.{broken_stripes, scrub_text}
use Rattle.mr_scrub.specs.declared.broken.Broken.{Broken}
use Rattle.mr_steps.specs.Faults.{IsFilesFault, fault_status}
use Rattle.mr_steps.specs.Sinks.{Output}
use Rattle.mr_steps.specs.Steps.{Gives}
use Rattle.mr_steps.specs.declared.fault.Fault.{Fault}
use Rattle.mr_top.specs.Replies.{output_of}
use Rattle.mr_top.specs.Scrub.{scrub_accepted, scrub_answer, scrub_output}
use Rattle.mr_top.specs.WholeImages.{any_version}
use Rattle.mr_top.proofs.WholeImages.{whole-is}

pub scrub-is : (contents : List ℕ → List ℕ) (matrix image : List ℕ) → (scrub_answer contents matrix image).result ≡ scrub_accepted contents matrix image
scrub-is contents matrix image = whole-is any_version scrub_output contents matrix image

-- what is written of a file that is told
pub scrubbed-told : (told : Option (List ℕ)) (m : Code) (l : Layout) (stripes : ℕ) (broken : List Broken) → stripes ≡ l.stripes
    → IfSome told (λ bytes. broken ≡ broken_stripes l (codes_by l m) (image_of l bytes))
    → (bytes : List ℕ) → told ≡ Some bytes → ◌≡◌ {A = Result Output Fault} (Ok (scrub_output m l bytes)) (Ok (record { out = scrub_text stripes broken; report = [] }))
scrubbed-told told m l stripes broken count found bytes there =
    let is : broken ≡ broken_stripes l (codes_by l m) (image_of l bytes) =
    subst (λ o. IfSome o (λ b. broken ≡ broken_stripes l (codes_by l m) (image_of l b))) there found in
    ap (λ (b : List Broken). Ok (record { out = scrub_text l.stripes b; report = [] })) (sym is)
    ∙ ap (λ (n : ℕ). Ok (record { out = scrub_text n broken; report = [] })) (sym count)

-- a scrub that failed, or for which there was no memory
pub no-scrub : (told : Option (List ℕ)) (definition : List ℕ → Result Output Fault) (error : FilesError) (fault : Fault) → IsFilesFault error fault
    → (bytes : List ℕ) → told ≡ Some bytes → Gives output_of (Err fault) (definition bytes)
no-scrub told definition Failed fault is bytes there = λ foreseen. absurd (foreseen.0 (ap fault_status is))
no-scrub told definition Memory fault is bytes there = λ foreseen. absurd (foreseen.2 (ap fault_status is))
