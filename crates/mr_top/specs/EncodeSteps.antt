-- The steps of `encode`: the eyes that it asks for on the way, and the bytes that it takes.
use Rattle.std.specs.Prelude.{List, Ok, [], ℕ}
use Rattle.mr_image.specs.Images.{Layout}
use Rattle.mr_io.specs.declared.duty.Duty.TheVariants.{Copy}
use Rattle.mr_model.specs.Code.{Code}
use Rattle.mr_steps.specs.Readings.{Reading, file, given, ◌>>=◌}
use Rattle.mr_steps.specs.Sinks.{Output}
use Rattle.mr_steps.specs.TextFiles.{matrix_file}
use Rattle.mr_top.specs.Encode.{encoded_given, layout_given}

-- the image file of the codewords of a data file
unfoldable pub encoded_file : (List ℕ → List ℕ) → List ℕ → Code → Layout → Reading (List ℕ)
encoded_file contents payload m l = do
  bytes ← file contents payload Copy
  given (encoded_given m l bytes)

-- encode MATRIX DATA STRIPES BYTES
unfoldable pub encode_answer : (List ℕ → List ℕ) → List ℕ → List ℕ → ℕ → ℕ → Reading Output
encode_answer contents matrix payload stripes bytes = do
  m ← matrix_file contents matrix
  l ← given (layout_given m bytes stripes)
  image ← encoded_file contents payload m l
  given (Ok (record { out = image; report = [] }))
