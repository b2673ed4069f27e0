-- The rows of a table.
use Rattle.std.specs.Prelude.{ℕ, ◌<◌, List, map, length, slice_index, Option, Some, None}
use Rattle.std.specs.List.{range_with_len}
use Rattle.mr_model.specs.Code.{Code, survivors, undetermined}
use Rattle.mr_model.specs.Laws.{IsLean}
use Rattle.mr_model.specs.Search.{Choice}
use Rattle.mr_model.specs.Choice.{choice_of}
use Rattle.mr_eq.specs.Problems.{IsUndetermined}
use Rattle.mr_eq.specs.Singles.{loss_of}
use Rattle.mr_eq.specs.Choices.{found_of}
use Rattle.mr_eq.specs.declared.found.Found.{Found}
use Rattle.mr_front.specs.Searches.{set_of, IsFoundWithin}
use Rattle.mr_losses.specs.Losses.{symbols_of_devices}
use Rattle.mr_table.specs.Losses.{losses}
use Rattle.mr_table.specs.declared.row.Row.{Row}
use Rattle.mr_table.specs.declared.row.JobAnswer.{JobAnswer}
use Rattle.mr_table.specs.declared.row.JobAnswer.TheVariants.{Plan, Undetermined}

-- the answer by the least symbol that is not determined, if there is one, and by the choice
abbrev pub answer_by : Option ℕ → Choice → JobAnswer
answer_by None choice = Plan (found_of choice)
answer_by (Some t) choice = Undetermined t

-- the answer where these symbols are lost, and where these devices are
abbrev pub answer_to : Code → ℕ → ℕ → JobAnswer
answer_to m budget lost = answer_by (undetermined m (survivors m lost) lost)
    (choice_of m (survivors m lost) lost budget)

abbrev pub answer_of : Code → ℕ → ℕ → JobAnswer
answer_of m budget devices = answer_to m budget (symbols_of_devices m devices)

-- What was found is the first smallest set of the survivors where that is within the budget, and
-- otherwise the plain set. Either determines the lost symbols, and none of its members is spare.
pub record IsPlanFor (m : Code) (lost budget : ℕ) (found : Found) : Type 0 where
  pub within : IsFoundWithin (loss_of m lost) budget found
  pub lean : IsLean m (survivors m lost) lost (set_of found)

-- the answer where these symbols are lost: a plan, or the least symbol that nothing read could tell
abbrev pub IsAnswerTo : Code → ℕ → ℕ → JobAnswer → Type 0
IsAnswerTo m lost budget (Plan found) = IsPlanFor m lost budget found
IsAnswerTo m lost budget (Undetermined symbol) = IsUndetermined m (survivors m lost) lost symbol

-- the row of a job, where these devices are lost in the jobs
abbrev pub row_of : Code → ℕ → List ℕ → ℕ → Row
row_of m budget devices job =
    record { job = job; answer = answer_of m budget (slice_index devices job) }

-- the table: the row of each job, in order of the jobs
abbrev pub table_of : Code → ℕ → List Row
table_of m budget =
    map (row_of m budget (losses m.devices)) (range_with_len 0 (length (losses m.devices)))

-- the devices that are lost in the job of a row
abbrev pub devices_of : Code → Row → ℕ
devices_of m row = slice_index (losses m.devices) row.job

-- The row is of a job, and has the answer to its loss.
pub record IsRow (m : Code) (budget : ℕ) (row : Row) : Type 0 where
  pub job : row.job < length (losses m.devices)
  pub answer : IsAnswerTo m (symbols_of_devices m (devices_of m row)) budget row.answer
