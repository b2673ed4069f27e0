use Rattle.std.proofs.Common.{◌≡◌, drop}
use Rattle.mr_plan.specs.Checks.{recipes_fault}
use Rattle.mr_plan.proofs.checking.check_recipes.Given as goal

-- no recipe so far has a fault
abbrev pub invariant-loop-recipe : goal.invariant-loop-recipe
invariant-loop-recipe l = recipes_fault l.fn.matrix l.fn.set l.fn.recipes ≡ recipes_fault l.matrix l.set (drop l.recipe-index l.recipes)
