use Rattle.mr_form.specs.MatrixText.{lines}
use Rattle.mr_form.proofs.BodyLaws.{IsReadSoFar}
use Rattle.mr_form.proofs.reading.read_rows.Given as goal

abbrev pub invariant-loop-i : goal.invariant-loop-i
invariant-loop-i l = IsReadSoFar l.shape.columns (lines l.body) (lines l.left) l.i l.rows
