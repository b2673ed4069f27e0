use Rattle.std.proofs.Common.{ℕ, length}
use Rattle.std.specs.Prelude.{slice_index}
use Rattle.mr_scrub.specs.Stripes.{checks_of}
use Rattle.mr_scrub.proofs.FaultLaws.{AddsBelow}
use Rattle.mr_scrub.proofs.faults.xor_part.Given as goal

-- the symbols of the check below n are added
abbrev pub invariant-loop-symbol : goal.invariant-loop-symbol
invariant-loop-symbol g l = (goal.iterator-loop-symbol g).can_next l.symbol-iterator × (goal.iterator-loop-symbol g).is_finite l.symbol-iterator
    × ((n : ℕ) × AddsBelow (length l.checks.rows) l.fn.stripe.size l.fn.stripe.bytes.now (slice_index (checks_of l.checks) l.x) l.at (length l.fn.part) n l.symbol-iterator l.part)
