use Rattle.std.proofs.Common.{◌≡◌, ◌++◌}
use Rattle.mr_table.specs.Losses.{singles}
use Rattle.mr_table.proofs.losses.push_singles.Given as goal

abbrev pub invariant-loop-device : goal.invariant-loop-device
invariant-loop-device l = l.list.items ≡ l.fn.list.items ++ singles l.device
