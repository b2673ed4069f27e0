use Rattle.std.proofs.Common.{flat_map, take}
use Rattle.std.specs.List.{range_with_len}
use Rattle.mr_image.specs.Rotated.{rotations}
use Rattle.mr_io.proofs.Fronts.{TakenSoFar}
use Rattle.mr_ready.specs.Reports.{choice_text}
use Rattle.mr_ready.proofs.printing.print_plans.Given as goal

-- the plans of the rotations before this one are taken
abbrev pub invariant-loop-rotation : goal.invariant-loop-rotation
invariant-loop-rotation g l = TakenSoFar (g.K.Sink.held l.initial.report) (g.K.Sink.held l.report) (g.K.Sink.faults l.initial.report) (g.K.Sink.faults l.report)
    (flat_map (choice_text l.order.head l.order.plans l.order.lines.items) (take l.rotation (range_with_len 0 (rotations l.order.head))))
