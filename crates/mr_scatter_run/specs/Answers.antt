-- What a run of `scatter` says of its status, its report and the device files.
use Rattle.std.specs.Prelude.{Err, None, Option, Some, List, ℕ, ◌≡◌, ◌≢◌, ◌⊎◌}
use Rattle.mr_io.specs.Taking.{Held, Takes}
use Rattle.mr_array_words.specs.Scatter.{ScatterAsked}
use Rattle.mr_devices.specs.Writing.{Shelf}
use Rattle.mr_steps.specs.Faults.{fault_status}
use Rattle.mr_steps.specs.Refusals.{Gave, refusal_of, status_by}
use Rattle.mr_steps.specs.Sinks.{HasLine, TakesFront}
use Rattle.mr_steps.specs.Steps.{IsForeseen}
use Rattle.mr_steps.specs.declared.fault.Fault.{Fault}
use Rattle.mr_scatter_run.specs.Ends.{HasParts, IsCut}
use Rattle.mr_scatter_run.specs.Tasks.{body_of, end_text, refusal_text, scatter_answer, scatter_line, task_of}

-- The status of a run, and what it made of its report and of the devices.
pub record Ran : Type 0 where
  pub status : ℕ
  pub report_old : Option Held
  pub report_new : Option Held
  pub devices_new : Option Shelf

-- A fault of this status ended the run, and the report says so: the lines of the refusal, behind the count of stripes
-- where the devices were open, and then the device files are as that says.
pub record IsEnded (contents : List ℕ → List ℕ) (left : List ℕ) (asked : ScatterAsked) (shelf : Shelf)
    (report_failed : Type 0) (ran : Ran) : Type 0 where
  pub stripes : Option ℕ
  pub fault : Fault
  pub code : fault_status fault ≡ ran.status
  pub line : HasLine ran.report_old ran.report_new report_failed (end_text stripes fault)
  pub files : ((stripes ≡ None) × (ran.devices_new ≡ Some shelf)) ⊎ Gave (task_of contents left asked).result
      (λ task. IsCut asked.devices task (body_of left) shelf ran.devices_new stripes fault)

-- All was written to the devices, and the report failed.
pub record IsUntold (contents : List ℕ → List ℕ) (left : List ℕ) (asked : ScatterAsked) (shelf : Shelf)
    (report_failed : Type 0) (ran : Ran) : Type 0 where
  pub code : ran.status ≡ 10
  pub failed : report_failed
  pub gave : Gave (scatter_answer contents left asked).result (λ task.
      TakesFront ran.report_old ran.report_new (scatter_line task)
      × HasParts asked.devices task (body_of left) shelf ran.devices_new task.layout.stripes)

-- A run over files, a source and devices that tell this keeps to the answer to what is asked. The report failed in it, or
-- any of the outside did.
pub record Answers (contents : List ℕ → List ℕ) (left : List ℕ) (asked : ScatterAsked) (shelf : Shelf)
    (report_failed failed : Type 0) (ran : Ran) : Type 0 where
  -- the status is that of the first refusal, or 0
  pub status : IsForeseen ran.status
      → ran.status ≡ status_by (refusal_of (scatter_answer contents left asked).result)
  -- after a refusal the report has its lines
  pub refused : (fault : Fault) → IsForeseen ran.status → (scatter_answer contents left asked).result ≡ Err fault
      → HasLine ran.report_old ran.report_new report_failed (refusal_text contents left asked fault)
  -- on 0 the parts of all stripes are written, and the line
  pub answered : ran.status ≡ 0 → Gave (scatter_answer contents left asked).result (λ task.
      Takes ran.report_old ran.report_new (scatter_line task)
      × HasParts asked.devices task (body_of left) shelf ran.devices_new task.layout.stripes)
  -- what is refused before the devices are opened leaves them as they were
  pub untouched : (fault : Fault) → (task_of contents left asked).result ≡ Err fault → ran.devices_new ≡ Some shelf
  -- with any other status the files are as the report says
  pub ended : ran.status ≢ 0 → IsEnded contents left asked shelf report_failed ran
      ⊎ IsUntold contents left asked shelf report_failed ran
  -- where nothing is refused and nothing failed, the status is 0, but for want of memory
  pub complete : refusal_of (scatter_answer contents left asked).result ≡ None → (failed → ⊥)
      → ran.status ≢ 11 → ran.status ≡ 0

-- After a status other than 0 the report has the line of a fault of this status, behind that of a count of stripes where
-- the devices were open, or the command's own line was cut off.
abbrev pub IsReported : ℕ → Option Held → Option Held → Type 0 → Type 0
IsReported status old new failed =
    ((stripes : Option ℕ) × (fault : Fault) × (fault_status fault ≡ status) × HasLine old new failed (end_text stripes fault))
    ⊎ ((status ≡ 10) × failed)
