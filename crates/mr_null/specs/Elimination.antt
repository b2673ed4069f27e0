-- What pivots leave of a sum, and what is known of the pivots of a set whose members were worked
-- through.
use Rattle.std.specs.Prelude.{◌≡◌, ℕ, ◌^◌, ◌<◌, true, List, length, All, fold, bit_xor, if◌then◌else◌}
use Rattle.std.specs.Int.{bit_at}
use Rattle.mr_model.specs.Sets.{has, within}
use Rattle.mr_model.specs.Code.{Code, row_sum, kept}
use Rattle.mr_null.specs.declared.pivots.Pivot.{Pivot}
use Rattle.mr_null.specs.declared.pivots.Combined.{Combined}

-- the sum without the pivot's column: where it has it, the pivot is added
unfoldable pub step : Combined → Pivot → Combined
step c p = if has c.sum p.column
    then record {
      sum = bit_xor c.sum p.combined.sum;
      members = bit_xor c.members p.combined.members;
    }
    else c

-- what the pivots, in order, leave of a sum
unfoldable pub remainder : List Pivot → ℕ → ℕ
remainder pivots v = (fold step (record { sum = v; members = 0 }) pivots).sum

-- a pivot is the sum of the rows of some of the symbols of k, and has its column
pub record IsPivot (m : Code) (k : ℕ) (p : Pivot) : Type 0 where
  pub sum : row_sum m p.combined.members ≡ p.combined.sum
  pub members : within p.combined.members k ≡ true
  pub column : bit_at p.combined.sum p.column ≡ 1

-- pivots of symbols of k, which leave nothing of the sum of any subset of a
pub record IsElimination (m : Code) (a k : ℕ) (pivots : List Pivot) : Type 0 where
  pub pivots_are : All (IsPivot m k) pivots
  pub spans : (x : ℕ) → within x a ≡ true → remainder pivots (row_sum m x) ≡ 0

-- a matrix, a set of its symbols, the kept ones of them, and their pivots
pub record IsBasis (m : Code) (set k : ℕ) (pivots : List Pivot) : Type 0 where
  pub symbols : set < 2 ^ length m.rows
  pub small : set < 2 ^ 128
  pub kept_is : k ≡ kept m set
  pub elimination : IsElimination m set k pivots
