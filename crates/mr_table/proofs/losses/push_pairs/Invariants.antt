use Rattle.std.proofs.Common.{◌≡◌, ◌++◌}
use Rattle.std.specs.List.{flat_map, range_with_len}
use Rattle.mr_table.specs.Losses.{pairs_with}
use Rattle.mr_table.proofs.losses.push_pairs.Given as goal

abbrev pub invariant-loop-first : goal.invariant-loop-first
invariant-loop-first l = l.list.items ≡ l.fn.list.items ++ flat_map (pairs_with l.devices) (range_with_len 0 l.first)
