use Rattle.std.proofs.Common.{ℕ}
use Rattle.mr_null.proofs.Progress.{IsProgress}
use Rattle.mr_null.proofs.basis.Basis.of.Given as goal

-- the members below n are worked through, and the others are left
abbrev pub invariant-loop-symbol : goal.invariant-loop-symbol
invariant-loop-symbol l = (goal.iterator-loop-symbol).can_next l.symbol-iterator × (goal.iterator-loop-symbol).is_finite l.symbol-iterator
    × ((n : ℕ) × IsProgress l.matrix l.fn.set n l.symbol-iterator l.kept l.pivots.items)
