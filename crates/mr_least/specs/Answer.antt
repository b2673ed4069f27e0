-- What `leastplan` answers to its words.
use Rattle.std.specs.Prelude.{List, Ok, Result, drop, ℕ}
use Rattle.mr_choices.specs.declared.chosen.ChosenPlan.{ChosenPlan}
use Rattle.mr_least_words.specs.Words.{least_of}
use Rattle.mr_model.specs.Code.{Code}
use Rattle.mr_plan.specs.PlanText.{plan_text}
use Rattle.mr_steps.specs.Lines.{line_text}
use Rattle.mr_steps.specs.Losses.{targets_given}
use Rattle.mr_steps.specs.Readings.{Reading, given, ◌>>=◌}
use Rattle.mr_steps.specs.Refusals.{followed_by}
use Rattle.mr_steps.specs.Requests.{or_usage}
use Rattle.mr_steps.specs.Sinks.{Output}
use Rattle.mr_steps.specs.TextFiles.{matrix_file}
use Rattle.mr_steps.specs.declared.fault.Fault.{Fault}
use Rattle.mr_least.specs.Choice.{least_by}

-- what is written of a plan
abbrev pub output_of : ChosenPlan → Output
output_of chosen = record { out = plan_text chosen.plan; report = line_text chosen.line }

-- the plan for the lost devices of a matrix within the budget: the first refusal, or what is written
unfoldable pub least_given : ℕ → Code → List ℕ → Result Output Fault
least_given budget m lost =
    followed_by (targets_given m lost) (λ targets. Ok (output_of (least_by m targets budget)))

-- the same for a matrix file
unfoldable pub least_answer : (List ℕ → List ℕ) → List ℕ → List ℕ → ℕ → Reading Output
least_answer contents matrix lost budget = do
  m ← matrix_file contents matrix
  given (least_given budget m lost)

-- the answer to the words, of which the first is the program's name
unfoldable pub answer : List (List ℕ) → (List ℕ → List ℕ) → Reading Output
answer words contents = do
  asked ← given (or_usage (least_of (drop 1 words)))
  least_answer contents asked.matrix asked.lost asked.budget
