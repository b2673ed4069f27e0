-- The command `plan`: what it accepts, and what it writes.
use Rattle.std.specs.Prelude.{List, Ok, Result, ℕ}
use Rattle.mr_choices.specs.Chosen.{chosen_by}
use Rattle.mr_choices.specs.declared.chosen.ChosenPlan.{ChosenPlan}
use Rattle.mr_model.specs.Code.{Code}
use Rattle.mr_plan.specs.PlanText.{plan_text}
use Rattle.mr_steps.specs.Lines.{line_text}
use Rattle.mr_steps.specs.Losses.{targets_given}
use Rattle.mr_steps.specs.Refusals.{followed_by, ◌>>=◌}
use Rattle.mr_steps.specs.Sinks.{Output}
use Rattle.mr_steps.specs.Texts.{matrix_given}
use Rattle.mr_steps.specs.declared.fault.Fault.{Fault}

-- A matrix, the lost symbols and the plan for them.
pub record PlanAccepted : Type 0 where
  pub code : Code
  pub lost : ℕ
  pub chosen : ChosenPlan

-- a matrix and its lost symbols, with the plan of the search within the budget
abbrev pub plan_of_parts : ℕ → Code → ℕ → PlanAccepted
plan_of_parts budget m targets =
    record { code = m; lost = targets; chosen = chosen_by m targets budget }

-- plan MATRIX LOST within the budget
abbrev pub plan_accepted : (List ℕ → List ℕ) → List ℕ → List ℕ → ℕ → Result PlanAccepted Fault
plan_accepted contents matrix lost budget = do
  m ← matrix_given (contents matrix)
  targets ← targets_given m lost
  Ok (plan_of_parts budget m targets)

-- what `plan` writes
abbrev pub plan_written : PlanAccepted → Output
plan_written p = record { out = plan_text p.chosen.plan; report = line_text p.chosen.line }

-- what `plan` writes for these lost symbols within this budget
abbrev pub plan_output : ℕ → Code → ℕ → Output
plan_output budget m targets = record {
  out = plan_text (chosen_by m targets budget).plan;
  report = line_text (chosen_by m targets budget).line;
}

-- the plan for the lost devices within the budget: the first refusal, or what is written
unfoldable pub plan_given : ℕ → Code → List ℕ → Result Output Fault
plan_given budget m lost =
    followed_by (targets_given m lost) (λ targets. Ok (plan_output budget m targets))
