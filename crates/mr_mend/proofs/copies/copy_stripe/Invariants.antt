use Rattle.std.proofs.Common.{ℕ}
use Rattle.mr_mend.proofs.Copying.{RunsBelow}
use Rattle.mr_mend.proofs.copies.copy_stripe.Given as goal

-- all members of the set below n are copied, and all below the end of the last run
abbrev pub invariant-loop-symbol : goal.invariant-loop-symbol
invariant-loop-symbol g l = (goal.iterator-loop-symbol g).can_next l.symbol-iterator × (goal.iterator-loop-symbol g).is_finite l.symbol-iterator
    × ((n : ℕ) × RunsBelow l.fn.head l.fn.set l.fn.stripe n l.symbol-iterator l.«end» (g.E.Eye.sight l.initial.eye) (g.E.Eye.sight l.eye) (g.E.Eye.faults l.initial.eye) (g.E.Eye.faults l.eye) l.fn.image l.image)
