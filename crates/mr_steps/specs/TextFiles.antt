-- The steps that read a text file.
use Rattle.std.specs.Prelude.{List, ℕ}
use Rattle.mr_bits.specs.declared.errors.What.{What}
use Rattle.mr_bits.specs.declared.errors.What.TheVariants.{MatrixBytes}
use Rattle.mr_form.specs.MatrixText.{matrix_of}
use Rattle.mr_io.specs.declared.duty.Duty.TheVariants.{Text}
use Rattle.mr_model.specs.Code.{Code}
use Rattle.mr_steps.specs.Readings.{Reading, file, given, ◌>>=◌}
use Rattle.mr_steps.specs.Texts.{or_matrix_fault, text_limit, within}

-- a text file of at most so many bytes
unfoldable pub text_within : ℕ → (List ℕ → List ℕ) → List ℕ → What → Reading (List ℕ)
text_within limit contents name what = do
  bytes ← file contents name Text
  given (within limit what bytes)

-- a text file
unfoldable pub text_file : (List ℕ → List ℕ) → List ℕ → What → Reading (List ℕ)
text_file = text_within text_limit

-- the matrix that a file spells
unfoldable pub matrix_file : (List ℕ → List ℕ) → List ℕ → Reading Code
matrix_file contents name = do
  bytes ← text_file contents name MatrixBytes
  given (or_matrix_fault (matrix_of bytes))
