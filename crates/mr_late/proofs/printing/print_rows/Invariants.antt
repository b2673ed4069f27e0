use Rattle.std.proofs.Common.{flat_map, take}
use Rattle.mr_io.proofs.Fronts.{TakenSoFar}
use Rattle.mr_late.specs.Tables.{row_text}
use Rattle.mr_late.proofs.printing.print_rows.Given as goal

-- the lines of the rows so far are taken
abbrev pub invariant-loop-row : goal.invariant-loop-row
invariant-loop-row g l = TakenSoFar (g.K.Sink.held l.initial.out) (g.K.Sink.held l.out) (g.K.Sink.faults l.initial.out) (g.K.Sink.faults l.out)
    (flat_map (row_text l.tabled.matrix l.tabled.budget) (take l.row-index l.rows))
