use Rattle.std.proofs.Common.{◌≡◌, ◌≤◌}
use Rattle.std.specs.List.{range_with_len}
use Rattle.std.specs.VecDeque.{deque_len, deque_capacity}
use Rattle.mr_amend.proofs.making.numbers.Given as goal

abbrev pub invariant-loop-number : goal.invariant-loop-number
invariant-loop-number l = record {
  items : l.all.items ≡ range_with_len 0 l.number;
  long : deque_len l.all ≡ l.number;
  room : l.count ≤ deque_capacity l.all;
}
