-- The command `make`: what it accepts, and what it writes.
use Rattle.std.specs.Prelude.{Err, None, Ok, Option, Result, Some, [], ℕ}
use Rattle.mr_form.specs.Layouts.{evenodd_of, rdp_of}
use Rattle.mr_form.specs.MatrixText.{matrix_text}
use Rattle.mr_model.specs.Code.{Code}
use Rattle.mr_words.specs.declared.code.Code.{Code as MakerCode}
use Rattle.mr_words.specs.declared.code.Code.TheVariants.{Evenodd, Rdp}
use Rattle.mr_steps.specs.Sinks.{Output}
use Rattle.mr_steps.specs.declared.fault.Fault.{Fault}
use Rattle.mr_steps.specs.declared.fault.Fault.TheVariants.{Usage}

-- the matrix of a code for a prime
abbrev pub made : MakerCode → ℕ → Option Code
made Rdp p = rdp_of p
made Evenodd p = evenodd_of p

-- the text of a matrix that can be made
abbrev pub text_or_usage : Option Code → Result Output Fault
text_or_usage (Some m) = Ok (record { out = matrix_text m; report = [] })
text_or_usage None = Err Usage

-- make CODE P
unfoldable pub make_given : MakerCode → ℕ → Result Output Fault
make_given code p = text_or_usage (made code p)
