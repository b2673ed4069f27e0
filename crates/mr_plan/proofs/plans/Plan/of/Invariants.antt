use Rattle.std.proofs.Common.{ℕ}
use Rattle.mr_plan.proofs.PlanLaws.{IsMaking}
use Rattle.mr_plan.proofs.plans.Plan.of.Given as goal

-- the recipes of the lost symbols below some number are made
abbrev pub invariant-loop-symbol : goal.invariant-loop-symbol
invariant-loop-symbol l = (goal.iterator-loop-symbol).can_next l.symbol-iterator × (goal.iterator-loop-symbol).is_finite l.symbol-iterator
    × ((n : ℕ) × IsMaking l.matrix l.fn.lost l.fn.set n l.symbol-iterator l.recipes.items)
