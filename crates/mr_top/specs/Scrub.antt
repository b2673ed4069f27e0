-- The command `scrub`: what it accepts, and what it writes.
use Rattle.std.specs.Prelude.{List, Ok, Result, [], ℕ}
use Rattle.mr_image.specs.Images.{Layout, image_of}
use Rattle.mr_image.specs.Rotated.{codes_by}
use Rattle.mr_model.specs.Code.{Code}
use Rattle.mr_scrub.specs.Scrubs.{broken_stripes, scrub_text}
use Rattle.mr_steps.specs.Readings.{Reading}
use Rattle.mr_steps.specs.Refusals.{◌>>=◌}
use Rattle.mr_steps.specs.Sinks.{Output}
use Rattle.mr_steps.specs.Texts.{matrix_given}
use Rattle.mr_steps.specs.declared.fault.Fault.{Fault}
use Rattle.mr_top.specs.Rebuild.{head_given}
use Rattle.mr_top.specs.WholeImages.{any_version, image_answer}

-- up to the layout of the image, of either version
abbrev pub either_accepted : (List ℕ → List ℕ) → List ℕ → List ℕ → Result Layout Fault
either_accepted contents matrix image = do
  m ← matrix_given (contents matrix)
  l ← head_given m (contents image)
  any_version l

-- what `scrub` writes of an image file: its stripes that are no codewords, and how many they are;
-- nothing to the report
abbrev pub scrub_output : Code → Layout → List ℕ → Output
scrub_output m l bytes = record {
  out = scrub_text l.stripes (broken_stripes l (codes_by l m) (image_of l bytes));
  report = [];
}

-- scrub MATRIX IMAGE: what is written
abbrev pub scrub_accepted : (List ℕ → List ℕ) → List ℕ → List ℕ → Result Output Fault
scrub_accepted contents matrix image = do
  m ← matrix_given (contents matrix)
  l ← head_given m (contents image)
  Ok (scrub_output m l (contents image))

-- the steps of scrub MATRIX IMAGE
abbrev pub scrub_answer : (List ℕ → List ℕ) → List ℕ → List ℕ → Reading Output
scrub_answer = image_answer any_version scrub_output
