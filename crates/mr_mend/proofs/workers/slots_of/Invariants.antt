use Rattle.std.proofs.Common.{◌-◌}
use Rattle.mr_mend.proofs.Strides.{AreSlots}
use Rattle.mr_mend.proofs.workers.slots_of.Given as goal

abbrev pub invariant-loop-number : goal.invariant-loop-number
invariant-loop-number l = AreSlots l.first l.step l.asks l.head.symbol_bytes l.slots.items l.number

abbrev pub decreases-loop-number : goal.decreases-loop-number
decreases-loop-number l = l.asks - l.number
