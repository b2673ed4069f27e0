use Rattle.std.proofs.Common.{subst}
use Rattle.mr_bits.specs.Matrices.{IsMatrixCode}
use Rattle.mr_bits.proofs.RowLaws.{matrix-code}
use Rattle.mr_bits.proofs.matrices.Matrix.shape.Goals as goal

pub returns-clause-code : goal.returns-clause-code
returns-clause-code c = subst IsMatrixCode c.self.view_is (matrix-code _ _ _ c.self.invariant)
