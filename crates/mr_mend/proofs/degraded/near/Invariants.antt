use Rattle.std.proofs.Common.{ℕ}
use Rattle.mr_mend.proofs.XorSets.{SumBelow, single_set}
use Rattle.mr_mend.proofs.degraded.near.Given as goal

-- all members of the single equation below n are added
abbrev pub invariant-loop-symbol : goal.invariant-loop-symbol
invariant-loop-symbol g l = (goal.iterator-loop-symbol g).can_next l.symbol-iterator × (goal.iterator-loop-symbol g).is_finite l.symbol-iterator
    × ((n : ℕ) × SumBelow l.fn.head (single_set l.fn.singles.code l.fn.singles.lost l.fn.singles.budget l.fn.ask.symbol) l.fn.ask.stripe n l.symbol-iterator (g.E.Eye.sight l.initial.eye) (g.E.Eye.sight l.eye) (g.E.Eye.faults l.initial.eye) (g.E.Eye.faults l.eye) l.buf)
