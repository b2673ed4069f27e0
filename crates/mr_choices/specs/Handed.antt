-- The plan that is handed in.
use Rattle.std.specs.Prelude.{Err, List, None, Ok, Option, Result, Some, ℕ}
use Rattle.mr_bits.specs.declared.errors.What.TheVariants.{PlanBytes}
use Rattle.mr_model.specs.Code.{Code, cost}
use Rattle.mr_plan.specs.Checks.{first_fault, sound_unless}
use Rattle.mr_plan.specs.Plans.{PlanParts}
use Rattle.mr_plan.specs.Readings.{read_plan}
use Rattle.mr_plan.specs.declared.errors.PlanLine.{PlanLine}
use Rattle.mr_plan.specs.declared.errors.Wrong.{Wrong}
use Rattle.mr_plan.specs.declared.kinds.Kind.TheVariants.{Given}
use Rattle.mr_steps.specs.Readings.{Reading, given, ◌>>=◌}
use Rattle.mr_steps.specs.Refusals.{followed_by}
use Rattle.mr_steps.specs.TextFiles.{text_file}
use Rattle.mr_steps.specs.Texts.{within_limit}
use Rattle.mr_steps.specs.declared.choice_line.ChoiceLine.TheVariants.{Given as GivenLine}
use Rattle.mr_steps.specs.declared.fault.Fault.{Fault}
use Rattle.mr_steps.specs.declared.fault.Fault.TheVariants.{BadPlan, BadPlanLine}
use Rattle.mr_choices.specs.declared.chosen.ChosenPlan.{ChosenPlan}

-- the plan, or the refusal of its text
abbrev pub or_plan_line : Result PlanParts PlanLine → Result PlanParts Fault
or_plan_line (Ok plan) = Ok plan
or_plan_line (Err bad) = Err (BadPlanLine bad.line)

-- nothing, or the refusal of the plan
abbrev pub or_wrong : Result (Unit {0}) Wrong → Result (Unit {0}) Fault
or_wrong (Ok sound) = Ok sound
or_wrong (Err wrong) = Err (BadPlan wrong.symbol wrong.why)

-- the valid plan of a plan file's bytes: the first refusal, or the plan
unfoldable pub sound_given : Code → ℕ → List ℕ → Result PlanParts Fault
sound_given m targets bytes =
    followed_by (or_plan_line (read_plan bytes)) (λ plan.
    followed_by (or_wrong (sound_unless (first_fault m targets plan))) (λ _.
    Ok plan))

-- a plan that was handed in
abbrev pub as_given : Code → PlanParts → ChosenPlan
as_given m plan = record { plan = record plan { kind = Given }; line = GivenLine (cost m plan.set) }

-- the valid plan of a plan file's bytes: the first refusal, or the plan as one that was handed in
abbrev pub handed_given : Code → ℕ → List ℕ → Result (Option ChosenPlan) Fault
handed_given m targets bytes =
    followed_by (sound_given m targets bytes) (λ plan. Ok (Some (as_given m plan)))

-- the plan that is handed in for lost symbols, where there is a file of one
abbrev pub plan_file_given : Code → ℕ → Option (List ℕ) → Result (Option ChosenPlan) Fault
plan_file_given m lost None = Ok None
plan_file_given m lost (Some bytes) =
    followed_by (within_limit PlanBytes bytes) (λ text. handed_given m lost text)

-- the plan of a plan file
unfoldable pub plan_file : (List ℕ → List ℕ) → List ℕ → Code → ℕ → Reading (Option ChosenPlan)
plan_file contents plan m targets = do
  bytes ← text_file contents plan PlanBytes
  given (handed_given m targets bytes)

-- the plan that was handed in, where a plan file is named
abbrev pub handed_file : (List ℕ → List ℕ) → Option (List ℕ) → Code → ℕ
    → Reading (Option ChosenPlan)
handed_file contents None m targets = given (Ok None)
handed_file contents (Some plan) m targets = plan_file contents plan m targets
