use Rattle.std.proofs.Common.{flat_map, take}
use Rattle.std.specs.List.{range_with_len}
use Rattle.mr_io.proofs.Fronts.{TakenSoFar}
use Rattle.mr_history.specs.Histories.{names_of}
use Rattle.mr_account.specs.Endings.{account_of}
use Rattle.mr_account.specs.Lines.{history_line}
use Rattle.mr_account.proofs.endings.Ending.print_histories.Given as goal

-- the lines of the stripes below this one are taken
abbrev pub invariant-loop-stripe : goal.invariant-loop-stripe
invariant-loop-stripe g l = TakenSoFar (g.K.Sink.held l.initial.out) (g.K.Sink.held l.out) (g.K.Sink.faults l.initial.out) (g.K.Sink.faults l.out)
    (flat_map (λ t. history_line (names_of l.fn.terms) t ((account_of l.fn.self).history t)) (take l.stripe (range_with_len 0 l.fn.terms.head.stripes)))
