use Rattle.std.proofs.Common.{flat_map, take}
use Rattle.mr_io.proofs.Fronts.{TakenSoFar}
use Rattle.mr_account.specs.Lines.{entry_text}
use Rattle.mr_account.proofs.lines.put_entries.Given as goal

-- the texts of the entries so far are taken
abbrev pub invariant-loop-entry : goal.invariant-loop-entry
invariant-loop-entry g l = TakenSoFar (g.K.Sink.held l.initial.out) (g.K.Sink.held l.out) (g.K.Sink.faults l.initial.out) (g.K.Sink.faults l.out)
    (flat_map entry_text (take l.entry-index l.history))
