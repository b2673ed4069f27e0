use Rattle.std.proofs.Common.{◌≡◌, take, option_map}
use Rattle.mr_scatter_run.specs.Tasks.{opening_all}
use Rattle.mr_scatter_run.proofs.opening.open_all.Given as goal

-- the files of the names so far are open
abbrev pub invariant-loop-name : goal.invariant-loop-name
invariant-loop-name g l = (g.D.Devices.told l.devices ≡ option_map (opening_all (take l.name-index l.names)) (g.D.Devices.told l.initial.devices))
    × (g.D.Devices.faults l.devices ≡ g.D.Devices.faults l.initial.devices)
