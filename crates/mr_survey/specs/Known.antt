-- Sets of symbols that are known to be determined, one for each rotation.
use Rattle.std.specs.Prelude.{◌≡◌, ℕ, ◌<◌, ◌≤◌, List, length, slice_index_or, None}
use Rattle.mr_model.specs.Code.{Code}
use Rattle.mr_survey.specs.Surveys.{open_in}

-- there is a set for each rotation of the code, and in it the others determine its symbols
pub record AreKnown (m : Code) (known : List ℕ) : Type 0 where
  pub enough : m.devices ≤ length known
  pub determined : (r d : ℕ) → r < length known
      → open_in m (record { rotation = r; lost = slice_index_or known r d }) ≡ None
