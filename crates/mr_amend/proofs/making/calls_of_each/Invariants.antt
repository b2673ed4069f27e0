use Rattle.std.proofs.Common.{◌≡◌, ◌+◌, ◌<◌, ℕ, length, slice_index}
use Rattle.mr_locks.proofs.Sums.{below}
use Rattle.mr_amend.proofs.Counting.{of_stripe}
use Rattle.mr_amend.proofs.making.calls_of_each.Given as goal

abbrev pub invariant-loop-op : goal.invariant-loop-op
invariant-loop-op l = record {
  count : length l.counts.items ≡ l.terms.head.stripes;
  each : (t : ℕ) → t < l.terms.head.stripes → slice_index l.counts.items t ≡ below (of_stripe l.terms.ops.items t) l.op-index + 1;
}
