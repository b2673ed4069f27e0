-- The first fault of a text, as a property of its lines.
use Rattle.std.specs.Prelude.{◌≡◌, ℕ, List, Some, None, Err}
use Rattle.mr_model.specs.Code.{Code}
use Rattle.mr_bits.specs.declared.errors.Large.{Large}
use Rattle.mr_bits.specs.Matrices.{IsMatrixCode}
use Rattle.mr_bits.specs.Shapes.{shape_of}
use Rattle.mr_text.specs.Lines.{IsFirstBadLine}
use Rattle.mr_form.specs.declared.faults.MatrixFault.{MatrixFault}
use Rattle.mr_form.specs.declared.faults.MatrixFault.TheVariants.{Bad, Large as TooLarge}
use Rattle.mr_form.specs.declared.heads.Heading.{Heading}
use Rattle.mr_form.specs.MatrixText.{matrix_text, lines, line_at, head_fault, head_of}

-- the text of a matrix within the limits
pub record IsMatrixText (text : List ℕ) : Type 0 where
  pub matrix : Code
  pub limits : IsMatrixCode matrix
  pub spelled : text ≡ matrix_text matrix

-- line 1 is of its form, and what it names is too large for a shape
pub record NamesTooMuch (bytes : List ℕ) (large : Large) : Type 0 where
  pub named : Heading
  pub no_fault : head_fault (lines bytes) ≡ None
  pub head_is : head_of (line_at (lines bytes) 0) ≡ Some named
  pub too_large : shape_of named.n named.w named.k ≡ Err large

-- The fault is the first of the bytes: a line such that the lines before it begin the text of a
-- matrix, and with it they begin none; or what line 1 names is too large.
abbrev pub IsFirstFault : List ℕ → MatrixFault → Type 0
IsFirstFault bytes (Bad line kind) = IsFirstBadLine IsMatrixText line bytes
IsFirstFault bytes (TooLarge large) = NamesTooMuch bytes large
