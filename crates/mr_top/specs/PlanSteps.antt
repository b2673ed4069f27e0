-- The steps of `plan`: the eye that it asks for, and the bytes that it takes.
use Rattle.std.specs.Prelude.{List, ℕ}
use Rattle.mr_steps.specs.Readings.{Reading, given, ◌>>=◌}
use Rattle.mr_steps.specs.Sinks.{Output}
use Rattle.mr_steps.specs.TextFiles.{matrix_file}
use Rattle.mr_top.specs.Plan.{plan_given}

-- plan MATRIX LOST, within the budget
unfoldable pub plan_answer : (List ℕ → List ℕ) → List ℕ → List ℕ → ℕ → Reading Output
plan_answer contents matrix lost budget = do
  m ← matrix_file contents matrix
  given (plan_given budget m lost)
