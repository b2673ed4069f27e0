use Rattle.mr_form.proofs.RowLaws.{IsRowSoFar}
use Rattle.mr_form.proofs.rows.read_row.Given as goal

abbrev pub invariant-loop-column : goal.invariant-loop-column
invariant-loop-column l = IsRowSoFar l.line l.column l.row
