use Rattle.std.proofs.Common.{◌-◌, length}
use Rattle.std.specs.Prelude.{slice_index}
use Rattle.mr_scrub.specs.Stripes.{checks_of}
use Rattle.mr_scrub.proofs.FaultLaws.{IsZeroBelow}
use Rattle.mr_scrub.proofs.faults.breaks.Given as goal

-- the bytes of the XOR below `at` are 0
abbrev pub invariant-loop-at : goal.invariant-loop-at
invariant-loop-at g l = IsZeroBelow (length l.checks.rows) l.fn.stripe.size l.fn.stripe.bytes.now (slice_index (checks_of l.checks) l.x) l.at

abbrev pub decreases-loop-at : goal.decreases-loop-at
decreases-loop-at g l = l.fn.stripe.size - l.at
