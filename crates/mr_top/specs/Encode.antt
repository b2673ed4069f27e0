-- The command `encode`: what it accepts, and what it writes.
use Rattle.std.specs.Prelude.{Err, List, Ok, Result, [], if◌then◌else◌, length, ℕ, ◌==◌}
use Rattle.mr_encode.specs.Data.{columns_of, data_bytes}
use Rattle.mr_image.specs.Heads.{checked_layout, image_bytes}
use Rattle.mr_image.specs.Images.{Layout, code_image, every_stripe}
use Rattle.mr_image.specs.declared.faults.HeadFault.{HeadFault}
use Rattle.mr_image.specs.declared.faults.ImageKind.TheVariants.{Length}
use Rattle.mr_model.specs.Code.{Code, dimensions}
use Rattle.mr_steps.specs.Faults.{head_fault}
use Rattle.mr_steps.specs.Refusals.{◌>>=◌}
use Rattle.mr_steps.specs.Sinks.{Output}
use Rattle.mr_steps.specs.Texts.{matrix_given}
use Rattle.mr_steps.specs.declared.fault.Fault.{Fault}
use Rattle.mr_steps.specs.declared.fault.Fault.TheVariants.{BadImage}

-- the layout, or the refusal of its numbers or of the head that spells it
abbrev pub or_head_fault : Result Layout HeadFault → Result Layout Fault
or_head_fault (Ok l) = Ok l
or_head_fault (Err fault) = Err (head_fault fault)

-- the layout of an image for a code
abbrev pub layout_given : Code → ℕ → ℕ → Result Layout Fault
layout_given m bytes stripes = or_head_fault (checked_layout (dimensions m) bytes stripes)

-- the image file of the codewords of the data
abbrev pub encoded : Code → Layout → List ℕ → List ℕ
encoded m l bytes = image_bytes l (code_image l (every_stripe m) (columns_of l m.columns bytes))

-- the image file, where the data have its length
unfoldable pub encoded_given : Code → Layout → List ℕ → Result (List ℕ) Fault
encoded_given m l bytes =
    if length bytes == data_bytes l m then Ok (encoded m l bytes) else Err (BadImage Length)

-- up to the layout of a new image
abbrev pub layout_accepted : (List ℕ → List ℕ) → List ℕ → ℕ → ℕ → Result Layout Fault
layout_accepted contents matrix stripes bytes = do
  m ← matrix_given (contents matrix)
  layout_given m bytes stripes

-- encode MATRIX DATA STRIPES BYTES: the image of the data
abbrev pub encode_accepted : (List ℕ → List ℕ) → List ℕ → List ℕ → ℕ → ℕ → Result (List ℕ) Fault
encode_accepted contents matrix payload stripes bytes = do
  m ← matrix_given (contents matrix)
  l ← layout_given m bytes stripes
  encoded_given m l (contents payload)

-- what a command writes that answers an image file
abbrev pub image_written : List ℕ → Output
image_written image = record { out = image; report = [] }
