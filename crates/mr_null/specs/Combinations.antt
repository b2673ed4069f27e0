-- That a sum has exactly one combination.
use Rattle.std.specs.Prelude.{◌≡◌, ℕ, true, Some}
use Rattle.mr_model.specs.Sets.{within}
use Rattle.mr_model.specs.Code.{Code, row_sum, kept, combination}

-- v is the sum of exactly one set of kept members of a, its combination
pub record HasOneCombination (m : Code) (a v : ℕ) : Type 0 where
  pub set : ℕ
  pub inside : within set (kept m a) ≡ true
  pub sums : row_sum m set ≡ v
  pub found : combination m a v ≡ Some set
  pub only : (x : ℕ) → within x (kept m a) ≡ true → row_sum m x ≡ v → x ≡ set
