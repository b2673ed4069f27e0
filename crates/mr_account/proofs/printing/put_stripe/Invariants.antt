use Rattle.std.proofs.Common.{flat_map, take}
use Rattle.std.specs.List.{range_with_len}
use Rattle.mr_image.specs.Images.{stripe_symbols}
use Rattle.mr_io.proofs.Fronts.{TakenSoFar}
use Rattle.mr_kept.specs.Kept.{symbol_in}
use Rattle.mr_account.proofs.printing.put_stripe.Given as goal

-- the symbols below this one are taken
abbrev pub invariant-loop-symbol : goal.invariant-loop-symbol
invariant-loop-symbol g l = TakenSoFar (g.K.Sink.held l.initial.out) (g.K.Sink.held l.out) (g.K.Sink.faults l.initial.out) (g.K.Sink.faults l.out)
    (flat_map (symbol_in l.head.symbol_bytes l.kept.bytes.items) (take l.symbol (range_with_len 0 (stripe_symbols l.head))))
