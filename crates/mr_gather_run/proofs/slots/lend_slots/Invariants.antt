use Rattle.std.proofs.Common.{◌≡◌}
use Rattle.std.specs.Prelude.{None, vec_capacity, vec_len}
use Rattle.mr_gather_run.proofs.Lending.{Lending}
use Rattle.mr_gather_run.proofs.slots.lend_slots.Given as goal

-- the eyes on the devices before this one were lent
abbrev pub invariant-loop-device : goal.invariant-loop-device
invariant-loop-device g l =
    Lending g.F.E.Eye.sight g.F.E.Eye.faults (g.F.Files.told l.initial.files) (g.F.Files.told l.files) (g.F.Files.totals l.initial.files) (g.F.Files.totals l.files)
    (g.F.Files.faults l.initial.files) (g.F.Files.faults l.files) l.devices l.device-index l.slots.items
    × (vec_len l.slots ≡ l.device-index) × (vec_capacity l.slots ≡ vec_capacity l.initial.slots)
    × (g.F.Files.told l.initial.files ≡ None → g.F.Files.told l.files ≡ None)
