-- The command `check`: what it accepts, and what it writes.
use Rattle.std.specs.Prelude.{List, Ok, Result, [], codes, decimal, ℕ, ◌∷◌}
use Rattle.mr_bits.specs.declared.errors.What.TheVariants.{PlanBytes}
use Rattle.mr_choices.specs.Handed.{sound_given}
use Rattle.mr_model.specs.Code.{Code, cost}
use Rattle.mr_steps.specs.Faults.{joined}
use Rattle.mr_steps.specs.Losses.{targets_given}
use Rattle.mr_steps.specs.Refusals.{followed_by, ◌>>=◌}
use Rattle.mr_steps.specs.Sinks.{Output}
use Rattle.mr_steps.specs.Texts.{matrix_given, within_limit}
use Rattle.mr_steps.specs.declared.fault.Fault.{Fault}

-- the line of a valid plan, with what its set costs
abbrev pub valid_text : ℕ → List ℕ
valid_text price = joined (codes "valid " ∷ decimal price ∷ codes "\n" ∷ [])

-- what the set of that plan costs
abbrev pub cost_given : Code → ℕ → List ℕ → Result ℕ Fault
cost_given m targets bytes =
    followed_by (sound_given m targets bytes) (λ plan. Ok (cost m plan.set))

-- check MATRIX LOST PLAN: the number of symbols that the plan reads
abbrev pub check_accepted : (List ℕ → List ℕ) → List ℕ → List ℕ → List ℕ → Result ℕ Fault
check_accepted contents matrix lost plan = do
  m ← matrix_given (contents matrix)
  targets ← targets_given m lost
  text ← within_limit PlanBytes (contents plan)
  cost_given m targets text

-- what `check` writes of a valid plan
abbrev pub check_written : ℕ → Output
check_written cost = record { out = valid_text cost; report = [] }
