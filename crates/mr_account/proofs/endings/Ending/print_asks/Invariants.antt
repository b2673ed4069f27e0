use Rattle.std.proofs.Common.{◌≡◌, ◌*◌, flat_map, take, length, slice_get}
use Rattle.std.specs.List.{range_with_len}
use Rattle.mr_io.proofs.Fronts.{TakenSoFar}
use Rattle.mr_account.specs.Endings.{account_of}
use Rattle.mr_account.specs.Lines.{ask_line}
use Rattle.mr_account.proofs.endings.Ending.print_asks.Given as goal

-- the lines of the asks below this one are taken
abbrev pub invariant-loop-number : goal.invariant-loop-number
invariant-loop-number g l =
    TakenSoFar (g.K.Sink.held l.initial.out) (g.K.Sink.held l.out) (g.K.Sink.faults l.initial.out) (g.K.Sink.faults l.out)
    (flat_map (λ k. ask_line (slice_get l.fn.terms.ops.items k) ((account_of l.fn.self).place k) ((account_of l.fn.self).reply k)) (take l.number (range_with_len 0 (length l.fn.terms.ops.items))))
    × (length l.digits ≡ 2 * l.fn.terms.head.symbol_bytes)
