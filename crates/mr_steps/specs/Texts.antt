-- The texts of a command: bytes within a limit, and the matrix that they spell.
use Rattle.std.specs.Prelude.{Err, List, Ok, Result, if◌then◌else◌, length, nat_le, ℕ}
use Rattle.mr_bits.specs.declared.errors.What.{What}
use Rattle.mr_bits.specs.declared.errors.What.TheVariants.{MatrixBytes}
use Rattle.mr_form.specs.MatrixText.{matrix_of}
use Rattle.mr_form.specs.declared.faults.MatrixFault.{MatrixFault}
use Rattle.mr_model.specs.Code.{Code}
use Rattle.mr_steps.specs.Faults.{matrix_fault}
use Rattle.mr_steps.specs.Refusals.{◌>>=◌}
use Rattle.mr_steps.specs.declared.fault.Fault.{Fault}
use Rattle.mr_steps.specs.declared.fault.Fault.TheVariants.{TooLarge}

-- the most bytes of a text file
abbrev pub text_limit : ℕ
text_limit = 65536

-- bytes that are not more than a limit
abbrev pub within : ℕ → What → List ℕ → Result (List ℕ) Fault
within limit what bytes =
    if nat_le (length bytes) limit then Ok bytes else Err (TooLarge what (length bytes))

-- bytes of a text file that are not too many
abbrev pub within_limit : What → List ℕ → Result (List ℕ) Fault
within_limit = within text_limit

-- a matrix, or the refusal of a text that is none
abbrev pub or_matrix_fault : Result Code MatrixFault → Result Code Fault
or_matrix_fault (Ok m) = Ok m
or_matrix_fault (Err fault) = Err (matrix_fault fault)

-- the matrix that the bytes of a file spell
abbrev pub matrix_given : List ℕ → Result Code Fault
matrix_given bytes = do
  text ← within_limit MatrixBytes bytes
  or_matrix_fault (matrix_of text)
