use Rattle.std.proofs.Common.{◌≡◌, ◌+◌, ◌-◌, ◌^◌, ◌≤◌, ◌++◌, bit_or, map}
use Rattle.std.specs.List.{range_with_len}
use Rattle.mr_table.proofs.losses.push_pairs_with.Given as goal

abbrev pub invariant-loop-second : goal.invariant-loop-second
invariant-loop-second l = (l.first + 1 ≤ l.second)
    × (l.list.items ≡ l.fn.list.items ++ map (λ j. bit_or (2 ^ l.first) (2 ^ j)) (range_with_len (l.first + 1) (l.second - (l.first + 1))))
