use Rattle.std.proofs.Common.{◌≡◌}
use Rattle.mr_form.specs.MatrixText.{row_text}
use Rattle.mr_form.proofs.printing.row_line.Given as goal

abbrev pub invariant-loop-column : goal.invariant-loop-column
invariant-loop-column l = l.line.items ≡ row_text l.column l.row
