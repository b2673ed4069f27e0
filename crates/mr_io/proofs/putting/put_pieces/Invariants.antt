use Rattle.std.proofs.Common.{flat_map, take}
use Rattle.mr_io.proofs.Fronts.{TakenSoFar}
use Rattle.mr_io.proofs.putting.put_pieces.Given as goal

abbrev pub invariant-loop-piece : goal.invariant-loop-piece
invariant-loop-piece g l = TakenSoFar (g.K.Sink.held l.initial.sink) (g.K.Sink.held l.sink) (g.K.Sink.faults l.initial.sink) (g.K.Sink.faults l.sink)
    (flat_map (λ piece. piece.now) (take l.piece-index l.pieces))
