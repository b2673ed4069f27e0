-- What a command writes, and what a refusal leaves in the sinks.
use Rattle.std.specs.Prelude.{Err, IfOk, List, Option, Result, length, take, ℕ, ◌≡◌, ◌≤◌, ◌⊎◌}
use Rattle.mr_io.specs.Taking.{Held, Takes}
use Rattle.mr_steps.specs.Faults.{fault_line, fault_status}
use Rattle.mr_steps.specs.Steps.{IsForeseen}
use Rattle.mr_steps.specs.declared.fault.Fault.{Fault}

-- what a command writes to `out` and to `report`
pub record Output : Type 0 where
  pub out : List ℕ
  pub report : List ℕ

-- a front of these bytes was taken, or all of them
abbrev pub TakesFront : Option Held → Option Held → List ℕ → Type 0
TakesFront old new bytes = (count : ℕ) × (count ≤ length bytes) × Takes old new (take count bytes)

-- The report has this line whole, unless it failed, and then a front of it.
pub record HasLine (old new : Option Held) (failed : Type 0) (line : List ℕ) : Type 0 where
  pub whole : (failed → ⊥) → Takes old new line
  pub front : TakesFront old new line

-- The status is that of this fault, and the fault is the definition's where it is foreseen.
pub record IsFaultOf (status : ℕ) (answer : Result Output Fault) (fault : Fault) : Type 0 where
  pub same : fault_status fault ≡ status
  pub given : IsForeseen status → answer ≡ Err fault

-- The report failed while it took the command's own report: `out` has all of the answer, and the
-- report a front.
pub record IsCutInReport (status : ℕ) (answer : Result Output Fault)
    (out_old out_new report_old report_new : Option Held) (failed : Type 0) : Type 0 where
  pub code : status ≡ 10
  pub rose : failed
  pub stands : IfOk answer (λ output. Takes out_old out_new output.out
      × TakesFront report_old report_new output.report)

-- What the report holds after a refusal: the fault's line, or where it failed a front of it; or a
-- front of the command's report, and then no line of a fault.
abbrev pub Reports : ℕ → Result Output Fault → Option Held → Option Held → Option Held → Option Held
    → Type 0 → Type 0
Reports status answer out_old out_new report_old report_new failed =
    ((fault : Fault) × IsFaultOf status answer fault
    × HasLine report_old report_new failed (fault_line fault))
    ⊎ IsCutInReport status answer out_old out_new report_old report_new failed

-- After a status other than 0 the report has the line of a fault of this status, or the command's
-- report was cut off.
abbrev pub IsReported : ℕ → Option Held → Option Held → Type 0 → Type 0
IsReported status old new failed =
    ((fault : Fault) × (fault_status fault ≡ status) × HasLine old new failed (fault_line fault))
    ⊎ ((status ≡ 10) × failed)
