-- The commands that read an image file whole, behind its head: what they accept, the eyes that they
-- ask for on the way, and the bytes that they take.
use Rattle.std.specs.Prelude.{List, Ok, Result, ℕ}
use Rattle.mr_image.specs.Images.{Layout, body_bytes}
use Rattle.mr_io.specs.declared.duty.Duty.TheVariants.{Copy}
use Rattle.mr_model.specs.Code.{Code}
use Rattle.mr_steps.specs.Readings.{Reading, file_taking, given, ◌>>=◌}
use Rattle.mr_steps.specs.Sinks.{Output}
use Rattle.mr_steps.specs.TextFiles.{matrix_file}
use Rattle.mr_steps.specs.declared.fault.Fault.{Fault}
use Rattle.mr_top.specs.RebuildSteps.{head_file}

-- an image of either version is allowed
abbrev pub any_version : Layout → Result Layout Fault
any_version l = Ok l

-- what is written of the symbols of an image file
unfoldable pub body_answer : (Layout → List ℕ → Output) → (List ℕ → List ℕ) → List ℕ → Layout
    → Reading Output
body_answer written contents image l = do
  bytes ← file_taking (body_bytes l) contents image Copy
  given (Ok (written l bytes))

-- the same, where the layout is allowed
unfoldable pub allowed_answer : (Layout → Result Layout Fault) → (Layout → List ℕ → Output)
    → (List ℕ → List ℕ) → List ℕ → Layout → Reading Output
allowed_answer allowed written contents image l = do
  taken ← given (allowed l)
  body_answer written contents image taken

-- the same for the matrix and the head that the files spell
unfoldable pub image_answer : (Layout → Result Layout Fault) → (Code → Layout → List ℕ → Output)
    → (List ℕ → List ℕ) → List ℕ → List ℕ → Reading Output
image_answer allowed written contents matrix image = do
  m ← matrix_file contents matrix
  l ← head_file contents image m
  allowed_answer allowed (written m) contents image l
