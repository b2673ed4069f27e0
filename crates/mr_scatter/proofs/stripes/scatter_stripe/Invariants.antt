use Rattle.std.proofs.Common.{◌≡◌, ◌+◌, ◌*◌, get_or}
use Rattle.mr_devices.specs.Places.{part_bytes}
use Rattle.mr_scatter.specs.Parts.{part_in}
use Rattle.mr_scatter.proofs.PartLaws.{StoresSome}
use Rattle.mr_scatter.proofs.stripes.scatter_stripe.Given as goal

-- the files so far are written
abbrev pub invariant-loop-k : goal.invariant-loop-k
invariant-loop-k g l = StoresSome l.k (g.D.Devices.told l.initial.devices) (g.D.Devices.told l.devices)
    (λ k. (l.fn.scattering.first + l.fn.number) * part_bytes l.fn.scattering.head) (λ k. part_in l.fn.scattering.head l.fn.stripe 0 (get_or l.fn.scattering.lost.now k 0))
    × (g.D.Devices.faults l.devices ≡ g.D.Devices.faults l.initial.devices)
