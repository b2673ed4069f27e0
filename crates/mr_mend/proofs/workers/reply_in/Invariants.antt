use Rattle.std.proofs.Common.{◌≢◌, ℕ, ◌<◌}
use Rattle.std.specs.Prelude.{slice_index_or}
use Rattle.mr_mend.specs.declared.served.Slot.{Slot}
use Rattle.mr_mend.proofs.workers.reply_in.Given as goal

abbrev pub invariant-loop-slot : goal.invariant-loop-slot
invariant-loop-slot l = (k : ℕ) (d : Slot) → k < l.slot-index → (slice_index_or l.slots k d).number ≢ l.number
