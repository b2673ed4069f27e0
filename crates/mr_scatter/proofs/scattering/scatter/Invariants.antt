use Rattle.mr_scatter.proofs.PartLaws.{IsScattered}
use Rattle.mr_scatter.proofs.scattering.scatter.Given as goal

-- the stripes so far are read and written
abbrev pub invariant-loop-number : goal.invariant-loop-number
invariant-loop-number g l = IsScattered l.scattering.head l.scattering.first l.scattering.lost.now l.number (g.S.Source.left l.initial.source) (g.S.Source.left l.source) (g.D.Devices.told l.initial.devices) (g.D.Devices.told l.devices)
    (g.S.Source.faults l.initial.source) (g.S.Source.faults l.source) (g.D.Devices.faults l.initial.devices) (g.D.Devices.faults l.devices)
