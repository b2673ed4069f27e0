use Rattle.std.proofs.Common.{◌≡◌, ℕ, take}
use Rattle.mr_model.specs.Sets.{has}
use Rattle.mr_plan.specs.Checks.{is_needed}
use Rattle.mr_plan.proofs.checking.needed.Given as goal

-- the union of the recipes so far
abbrev pub invariant-loop-recipe : goal.invariant-loop-recipe
invariant-loop-recipe l = (i : ℕ) → has l.union i ≡ is_needed (take l.recipe-index l.recipes) i
