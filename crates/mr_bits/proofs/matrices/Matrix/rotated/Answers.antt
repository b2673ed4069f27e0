use Rattle.std.proofs.Common.{◌<◌, ◌*◌, ap, sym, subst, ◌∙◌, arith}
use Rattle.mr_model.specs.Code.{Code}
use Rattle.mr_model.specs.Rotations.{rotated}
use Rattle.mr_bits.specs.Matrices.{IsMatrixCode}
use Rattle.mr_bits.proofs.RowLaws.{matrix-code}
use Rattle.mr_bits.proofs.RotatedRows.{turned, turned-matrix, matrix-rotated}
use Rattle.mr_bits.proofs.matrices.Matrix.rotated.Goals as goal

pub invariant_of-result : goal.invariant_of-result
invariant_of-result c =
    let within = subst (λ (m : Code). c.args.r < m.devices) (sym c.self.view_is) c.requires in
    turned-matrix c.self.inside.shape c.self.inside.rows c.self.inside.prices c.rotate_right.new.self c.symbols-symbols.result c.args.r _ c.self.invariant within c.symbols-symbols.ensures.count
    (ap (λ w. c.args.r * w) c.w.ensures) c.rotate_right.ensures.after

pub returns-clause-code : goal.returns-clause-code
returns-clause-code c =
    let within = subst (λ (m : Code). c.args.r < m.devices) (sym c.self.view_is) c.requires in
    turned c.self.inside.shape c.self.inside.rows c.self.inside.prices c.rotate_right.new.self c.symbols-symbols.result c.args.r _ c.self.invariant within c.symbols-symbols.ensures.count
    (ap (λ w. c.args.r * w) c.w.ensures) c.rotate_right.ensures.after
    ∙ ap (λ (m : Code). rotated m c.args.r) c.self.view_is

pub returns-clause-matrix : goal.returns-clause-matrix
returns-clause-matrix c =
    let is = subst IsMatrixCode c.self.view_is (matrix-code c.self.inside.shape c.self.inside.rows c.self.inside.prices c.self.invariant) in
    subst IsMatrixCode (sym (returns-clause-code c)) (matrix-rotated c.args.self.now c.args.r is (omega arith))
