-- The headline: a loss is refused as undetermined exactly where the survivors do not determine it;
-- else the plan is valid, and it is the least one unless its work is above the budget or a lost
-- symbol has too many equations.
use Rattle.std.specs.Prelude.{List, Ok, false, true, ℕ, ◌<◌, ◌≡◌, ◌≤◌, ◌⊎◌}
use Rattle.mr_eq.specs.Laws.{IsFirstSmallest}
use Rattle.mr_model.specs.Choice.{search_of}
use Rattle.mr_model.specs.Code.{Code, cost, plain}
use Rattle.mr_model.specs.Plans.{IsValidPlan}
use Rattle.mr_model.specs.Search.{work}
use Rattle.mr_plan.specs.PlanText.{plan_text}
use Rattle.mr_plan.specs.Plans.{PlanParts, survivors}
use Rattle.mr_plan.specs.declared.kinds.Kind.TheVariants.{Least, Spent}
use Rattle.mr_steps.specs.Lines.{line_text}
use Rattle.mr_steps.specs.Losses.{loss_of, targets_given}
use Rattle.mr_steps.specs.Ran.{Ran, Wrote}
use Rattle.mr_steps.specs.Texts.{matrix_given}
use Rattle.mr_steps.specs.Undetermined.{IsRefused}
use Rattle.mr_steps.specs.declared.choice_line.ChoiceLine.{ChoiceLine}
use Rattle.mr_steps.specs.declared.choice_line.ChoiceLine.TheVariants.{Least as LeastLine, Spent as SpentLine}
use Rattle.mr_least.specs.Choice.{has_too_many}

-- The plan is valid. It is that of the first smallest set where a lost symbol has not too many
-- equations and the work of the search is within the budget, and that of the plain set exactly
-- where either is not so.
pub record IsLeastWanted (m : Code) (lost budget : ℕ) (plan : PlanParts) (line : ChoiceLine)
    : Type 0 where
  pub valid : IsValidPlan m (survivors m lost) lost plan.set plan.recipes
  pub least : has_too_many m lost ≡ false → work (search_of m (survivors m lost) lost) ≤ budget
      → (plan.kind ≡ Least) × IsFirstSmallest (loss_of m lost) plan.set
      × (line ≡ LeastLine (cost m plan.set) (work (search_of m (survivors m lost) lost)))
  pub spent : (has_too_many m lost ≡ true) ⊎ (budget < work (search_of m (survivors m lost) lost))
      → (plan.kind ≡ Spent) × (plan.set ≡ plain m (survivors m lost) lost)
      × (line ≡ SpentLine (cost m plan.set) budget)

-- the plan was written, and its line to the report
abbrev pub HasWritten : Code → ℕ → ℕ → Ran → Type 0
HasWritten m lost budget ran =
    (plan : PlanParts) × (line : ChoiceLine) × IsLeastWanted m lost budget plan line
    × Wrote ran (plan_text plan) (line_text line)

-- `leastplan` keeps to the headline.
pub record Headline (contents : List ℕ → List ℕ) (matrix lost : List ℕ) (budget : ℕ)
    (failed : Type 0) (ran : Ran) : Type 0 where
  pub refused : IsRefused contents matrix lost failed ran
  pub written : ran.status ≡ 0 → (m : Code) (targets : ℕ) → matrix_given (contents matrix) ≡ Ok m
      → targets_given m lost ≡ Ok targets → HasWritten m targets budget ran
