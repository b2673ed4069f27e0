-- The steps of `check`: the eyes that it asks for on the way, and the bytes that it takes.
use Rattle.std.specs.Prelude.{List, Ok, [], ℕ}
use Rattle.mr_bits.specs.declared.errors.What.TheVariants.{PlanBytes}
use Rattle.mr_steps.specs.Losses.{targets_given}
use Rattle.mr_steps.specs.Readings.{Reading, given, ◌>>=◌}
use Rattle.mr_steps.specs.Sinks.{Output}
use Rattle.mr_steps.specs.TextFiles.{matrix_file, text_file}
use Rattle.mr_top.specs.Check.{cost_given, valid_text}

-- check MATRIX LOST PLAN
unfoldable pub check_answer : (List ℕ → List ℕ) → List ℕ → List ℕ → List ℕ → Reading Output
check_answer contents matrix lost plan = do
  m ← matrix_file contents matrix
  targets ← given (targets_given m lost)
  bytes ← text_file contents plan PlanBytes
  cost ← given (cost_given m targets bytes)
  given (Ok (record { out = valid_text cost; report = [] }))
