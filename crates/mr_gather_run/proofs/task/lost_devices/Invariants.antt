use Rattle.std.proofs.Common.{◌≡◌, None, get_or}
use Rattle.std.specs.Option.{is_none}
use Rattle.mr_model.specs.Sets.{set_below}
use Rattle.mr_gather_run.proofs.task.lost_devices.Given as goal

-- the devices before this one
abbrev pub invariant-loop-number : goal.invariant-loop-number
invariant-loop-number l = l.lost ≡ set_below l.number (λ d. is_none (get_or l.devices d None))
