use Rattle.std.proofs.Common.{ℕ}
use Rattle.mr_plan.proofs.TextLaws.{IsAppending}
use Rattle.mr_plan.proofs.lines.append_members.Given as goal

-- the texts of the members below some number are appended
abbrev pub invariant-loop-symbol : goal.invariant-loop-symbol
invariant-loop-symbol l = (goal.iterator-loop-symbol).can_next l.symbol-iterator × (goal.iterator-loop-symbol).is_finite l.symbol-iterator
    × ((n : ℕ) × IsAppending l.initial.line.items l.fn.set n l.symbol-iterator l.line.items)
