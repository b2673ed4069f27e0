-- What a run of `gather` says of its status, its sinks and its totals.
use Rattle.std.specs.Prelude.{Err, None, Option, ◌≡◌, ◌≢◌, ◌⊎◌}
use Rattle.mr_io.specs.Growth.{grown}
use Rattle.mr_io.specs.Telling.{AsksFront, Told}
use Rattle.mr_steps.specs.Faults.{fault_line}
use Rattle.mr_steps.specs.Ran.{Ran, Wrote}
use Rattle.mr_steps.specs.Refusals.{Gave, refusal_of, status_by}
use Rattle.mr_steps.specs.Sinks.{HasLine, TakesFront}
use Rattle.mr_steps.specs.Steps.{IsForeseen}
use Rattle.mr_steps.specs.declared.fault.Fault.{Fault}
use Rattle.mr_array_words.specs.Gather.{GatherAsked}
use Rattle.mr_gather_run.specs.Tasks.{gather_answer, gather_line, gathered_file}

-- nothing was written to `out`, or a front of the image
abbrev pub HasFront : GatherAsked → Told → Ran → Type 0
HasFront asked told ran =
    (ran.out_new ≡ ran.out_old)
    ⊎ Gave (gather_answer told.contents asked).result
    (λ task. TakesFront ran.out_old ran.out_new (gathered_file told.contents asked.devices task))

-- A run over files that tell this keeps to the answer to what is asked. The report failed in it, or any of the outside
-- did.
pub record Answers (asked : GatherAsked) (told : Told) (new : Option Told) (report_failed failed : Type 0) (ran : Ran)
    : Type 0 where
  -- the status is that of the first refusal, or 0
  pub status : IsForeseen ran.status
      → ran.status ≡ status_by (refusal_of (gather_answer told.contents asked).result)
  -- after a refusal the report has its line
  pub refused : (fault : Fault) → IsForeseen ran.status
      → (gather_answer told.contents asked).result ≡ Err fault
      → HasLine ran.report_old ran.report_new report_failed (fault_line fault)
  -- on 0 the image was written, and its line
  pub answered : ran.status ≡ 0
      → Gave (gather_answer told.contents asked).result
      (λ task. Wrote ran (gathered_file told.contents asked.devices task) (gather_line task))
  -- after a failed read and a failed write a front of the image
  pub cut : (ran.status ≡ 9) ⊎ (ran.status ≡ 10) → HasFront asked told ran
  -- where nothing is refused and nothing failed, the status is 0, but for want of memory
  pub complete : refusal_of (gather_answer told.contents asked).result ≡ None → (failed → ⊥)
      → ran.status ≢ 11 → ran.status ≡ 0
  -- the eyes asked for are a front of the answer's, and each was given back
  pub eyes : AsksFront told new (gather_answer told.contents asked).eyes
  -- on 0 the totals grew by what the answer takes
  pub totals : ran.status ≡ 0
      → ran.totals_new ≡ grown ran.totals_old (gather_answer told.contents asked).taken
