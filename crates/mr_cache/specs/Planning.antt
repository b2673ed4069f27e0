-- The plan of a pattern.
use Rattle.std.specs.Prelude.{◌≡◌, ℕ, Option, None, Some, Result, Ok, Err, IsOk}
use Rattle.mr_model.specs.Code.{Code, undetermined}
use Rattle.mr_model.specs.Rotations.{rotated}
use Rattle.mr_plan.specs.Plans.{PlanParts, survivors}
use Rattle.mr_choices.specs.Chosen.{choice_for, plan_by}
use Rattle.mr_cache.specs.declared.patterns.Pattern.{Pattern}
use Rattle.mr_cache.specs.declared.errors.PlanError.{PlanError}
use Rattle.mr_cache.specs.declared.errors.PlanError.TheVariants.{Undetermined, Memory}

-- the plan, or the symbol that is not determined, if there is one
abbrev pub unless_undetermined : Option ℕ → PlanParts → Result PlanParts ℕ
unless_undetermined None plan = Ok plan
unless_undetermined (Some t) plan = Err t

-- the plan for the lost symbols of a code within the budget, or the least of them that the others do
-- not determine
abbrev pub plan_for : Code → ℕ → ℕ → Result PlanParts ℕ
plan_for m budget lost = unless_undetermined (undetermined m (survivors m lost) lost)
    (plan_by m lost (choice_for m lost budget))

-- the plan of a pattern: that of its symbols in its rotation of the code
unfoldable pub plan_of_pattern : Code → ℕ → Pattern → Result PlanParts ℕ
plan_of_pattern m budget p = plan_for (rotated m p.rotation) budget p.lost

-- a call answers this plan, or this symbol, or has no memory for the plan
abbrev pub IsPlannedAs : Code → ℕ → Pattern → Result PlanParts PlanError → Type 0
IsPlannedAs m budget p (Ok plan) = plan_of_pattern m budget p ≡ Ok plan
IsPlannedAs m budget p (Err (Undetermined symbol)) = plan_of_pattern m budget p ≡ Err symbol
IsPlannedAs m budget p (Err Memory) = IsOk (plan_of_pattern m budget p)
