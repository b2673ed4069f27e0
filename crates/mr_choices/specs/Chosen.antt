-- The plans that the search chooses, with their lines.
use Rattle.std.specs.Prelude.{List, map, ℕ}
use Rattle.std.specs.List.{range_with_len}
use Rattle.mr_eq.specs.Singles.{SinglesOf}
use Rattle.mr_model.specs.Choice.{choice_of}
use Rattle.mr_model.specs.Code.{Code, cost}
use Rattle.mr_model.specs.Rotations.{rotated}
use Rattle.mr_model.specs.Search.{Choice, Least, Spent}
use Rattle.mr_plan.specs.Plans.{PlanParts, plan_of, survivors}
use Rattle.mr_plan.specs.declared.kinds.Kind.TheVariants.{Least as IsLeast, Spent as IsSpent}
use Rattle.mr_steps.specs.declared.choice_line.ChoiceLine.{ChoiceLine}
use Rattle.mr_steps.specs.declared.choice_line.ChoiceLine.TheVariants.{Least as LeastLine, Spent as SpentLine}
use Rattle.mr_choices.specs.declared.chosen.ChosenPlan.{ChosenPlan}

-- the plan of a choice
abbrev pub plan_by : Code → ℕ → Choice → PlanParts
plan_by m targets (Least set work) = plan_of m targets set IsLeast
plan_by m targets (Spent set) = plan_of m targets set IsSpent

-- the line of a choice: the kind, what the set costs, and the work or the budget
abbrev pub line_by : Code → ℕ → Choice → ChoiceLine
line_by m budget (Least set work) = LeastLine (cost m set) work
line_by m budget (Spent set) = SpentLine (cost m set) budget

-- what the search of the survivors gives within the budget
abbrev pub choice_for : Code → ℕ → ℕ → Choice
choice_for m targets budget = choice_of m (survivors m targets) targets budget

-- the plan for the lost symbols within the budget, and its line
abbrev pub chosen_by : Code → ℕ → ℕ → ChosenPlan
chosen_by m targets budget = record {
  plan = plan_by m targets (choice_for m targets budget);
  line = line_by m budget (choice_for m targets budget);
}

-- ---- all rotations

-- the plans of the first n rotations, each within the whole budget
abbrev pub plans_chosen : Code → ℕ → ℕ → ℕ → List PlanParts
plans_chosen m lost budget n =
    map (λ r. (chosen_by (rotated m r) lost budget).plan) (range_with_len 0 n)

-- and their lines
abbrev pub lines_chosen : Code → ℕ → ℕ → ℕ → List ChoiceLine
lines_chosen m lost budget n =
    map (λ r. (chosen_by (rotated m r) lost budget).line) (range_with_len 0 n)

-- the single equations of the lost symbols in the first n rotations, each within the whole budget
abbrev pub singles_chosen : Code → ℕ → ℕ → ℕ → List SinglesOf
singles_chosen m lost budget n =
    map (λ r. record { code = rotated m r; lost = lost; budget = budget }) (range_with_len 0 n)
