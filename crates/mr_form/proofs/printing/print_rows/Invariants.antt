use Rattle.std.proofs.Common.{flat_map, take}
use Rattle.mr_io.proofs.Fronts.{TakenSoFar}
use Rattle.mr_form.specs.MatrixText.{ended, row_text}
use Rattle.mr_form.proofs.printing.print_rows.Given as goal

abbrev pub invariant-loop-i : goal.invariant-loop-i
invariant-loop-i g l = TakenSoFar (g.K.Sink.held l.initial.out) (g.K.Sink.held l.out) (g.K.Sink.faults l.initial.out) (g.K.Sink.faults l.out)
    (flat_map (λ row. ended (row_text l.matrix.columns row)) (take l.i l.matrix.rows))
