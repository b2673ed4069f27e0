use Rattle.std.proofs.Common.{List, ℕ}
use Rattle.mr_io.proofs.Fronts.{TakenSoFar}
use Rattle.mr_model.specs.Members.{members}
use Rattle.mr_late.specs.Tables.{listed}
use Rattle.mr_late.proofs.Lines.{IsListing}
use Rattle.mr_late.proofs.printing.print_devices.Given as goal

-- what was put so far, and the devices that are left
abbrev pub invariant-loop-device : goal.invariant-loop-device
invariant-loop-device g l = (goal.iterator-loop-device g).can_next l.device-iterator × (goal.iterator-loop-device g).is_finite l.device-iterator
    × ((text : List ℕ)
    × TakenSoFar (g.K.Sink.held l.initial.out) (g.K.Sink.held l.out) (g.K.Sink.faults l.initial.out) (g.K.Sink.faults l.out) text
    × IsListing (listed 32 (members l.fn.devices)) text l.before l.device-iterator)
