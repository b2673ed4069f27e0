-- The command `convert`: what it accepts, and what it writes.
use Rattle.std.specs.Prelude.{Err, List, Ok, Result, if◌then◌else◌, ℕ, ◌==◌}
use Rattle.mr_image.specs.Images.{Layout}
use Rattle.mr_image.specs.Rotated.{converted_file}
use Rattle.mr_image.specs.declared.faults.ImageKind.TheVariants.{Version}
use Rattle.mr_steps.specs.Readings.{Reading}
use Rattle.mr_steps.specs.Refusals.{◌>>=◌}
use Rattle.mr_steps.specs.Sinks.{Output}
use Rattle.mr_steps.specs.Texts.{matrix_given}
use Rattle.mr_steps.specs.declared.fault.Fault.{Fault}
use Rattle.mr_steps.specs.declared.fault.Fault.TheVariants.{BadImage}
use Rattle.mr_top.specs.Rebuild.{head_given}
use Rattle.mr_top.specs.WholeImages.{image_answer}
use Rattle.mr_top.specs.Encode.{image_written}

-- the layout of an image that can be converted: one of version 2 is refused
abbrev pub first_version : Layout → Result Layout Fault
first_version l = if l.version == 2 then Err (BadImage Version) else Ok l

-- up to the layout of the image
abbrev pub first_accepted : (List ℕ → List ℕ) → List ℕ → List ℕ → Result Layout Fault
first_accepted contents matrix image = do
  m ← matrix_given (contents matrix)
  l ← head_given m (contents image)
  first_version l

-- convert MATRIX IMAGE: the image file of version 2
abbrev pub convert_accepted : (List ℕ → List ℕ) → List ℕ → List ℕ → Result (List ℕ) Fault
convert_accepted contents matrix image = do
  m ← matrix_given (contents matrix)
  l ← head_given m (contents image)
  first ← first_version l
  Ok (converted_file first (contents image))

-- what `convert` writes of an image file
abbrev pub converted_output : Layout → List ℕ → Output
converted_output l bytes = image_written (converted_file l bytes)

-- the steps of convert MATRIX IMAGE
abbrev pub convert_answer : (List ℕ → List ℕ) → List ℕ → List ℕ → Reading Output
convert_answer = image_answer first_version (λ _. converted_output)
