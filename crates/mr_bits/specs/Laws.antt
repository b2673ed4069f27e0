-- What is proved of matrices whose devices have moved on.
use Rattle.std.specs.Prelude.{◌≡◌, ℕ, ◌<◌, List, length}
use Rattle.mr_model.specs.Code.{Code}
use Rattle.mr_model.specs.Codewords.{codeword}
use Rattle.mr_model.specs.Rotations.{moved, rotated}

-- Whatever the data: each symbol of a codeword of the code whose devices have moved on by r is the
-- symbol of the code's own codeword that stood there before.
pub record MovesCodewords (m : Code) (r : ℕ) : Type 0 where
  pub symbols : (size : ℕ) (columns : List (List ℕ)) (i : ℕ) → i < length m.rows
      → codeword (rotated m r) size columns i
      ≡ codeword m size columns (moved m.devices m.symbols_per_device r i)
