use Rattle.std.specs.Prelude.{length}
use Rattle.std.specs.Vec.Iter.{into_iter_items, into_iter_len}
use Rattle.mr_io.proofs.Returns.{Retiring}
use Rattle.mr_gather_run.specs.Slots.{present}
use Rattle.mr_gather_run.proofs.slots.retire_slots.Given as goal

-- the eyes of the slots that are left are still to be given back
abbrev pub invariant-loop-slot : goal.invariant-loop-slot
invariant-loop-slot g l =
    Retiring g.F.E.Eye.sight g.F.E.Eye.faults (g.F.Files.told l.initial.files) (g.F.Files.told l.files)
    (g.F.Files.totals l.initial.files) (g.F.Files.totals l.files) (g.F.Files.faults l.initial.files) (g.F.Files.faults l.files)
    (present (into_iter_items l.initial.rest)) (present (into_iter_items l.rest)) (length (present (into_iter_items l.rest)))

abbrev pub decreases-loop-slot : goal.decreases-loop-slot
decreases-loop-slot g l = into_iter_len l.rest
