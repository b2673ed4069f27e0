-- What a run says of its status and its sinks, for the answer to its words.
use Rattle.std.specs.Prelude.{IfSome, List, None, Ok, Option, Some, ℕ, ◌≡◌, ◌≢◌}
use Rattle.mr_io.specs.Telling.{AsksFront, Told}
use Rattle.mr_steps.specs.Faults.{fault_line}
use Rattle.mr_steps.specs.Refusals.{status_by}
use Rattle.mr_steps.specs.Requests.{request_of}
use Rattle.mr_steps.specs.Sinks.{HasLine, Output, Reports, TakesFront}
use Rattle.mr_steps.specs.Steps.{IsForeseen}
use Rattle.mr_steps.specs.declared.fault.Fault.{Fault}
use Rattle.mr_top.specs.Answered.{IsAnswer, words_refusal}
use Rattle.mr_top.specs.Eyes.{words_eyes}
use Rattle.mr_top.specs.Headline.{Headline}
use Rattle.mr_top.specs.Ran.{Ran, Wrote}
use Rattle.mr_top.specs.Taken.{TookRight}

-- A run over files that tell this and a script with these bytes left keeps to the answer to its
-- words. The report failed in it, or any of the outside did.
pub record Answers (words : List (List ℕ)) (told : Told) (new : Option Told) (left : List ℕ)
    (report_failed failed : Type 0) (ran : Ran) : Type 0 where
  -- the status is that of the first refusal, or 0
  pub status : IsForeseen ran.status
      → ran.status ≡ status_by (words_refusal told.contents left (request_of words))
  -- after a refusal the report has its line
  pub refused : (fault : Fault) → IsForeseen ran.status
      → words_refusal told.contents left (request_of words) ≡ Some fault
      → HasLine ran.report_old ran.report_new report_failed (fault_line fault)
  -- on 0 the answer was written
  pub answered : ran.status ≡ 0 → (output : Output) × IsAnswer words told.contents left output
      × Wrote ran output.out output.report
  -- after a failed write a front of it
  pub cut : ran.status ≡ 10 → (output : Output) × IsAnswer words told.contents left output
      × TakesFront ran.out_old ran.out_new output.out
      × Reports 10 (Ok output) ran.out_old ran.out_new ran.report_old ran.report_new report_failed
  -- where nothing is refused and nothing failed, the status is 0, but for want of memory
  pub complete : words_refusal told.contents left (request_of words) ≡ None → (failed → ⊥)
      → ran.status ≢ 11 → ran.status ≡ 0
  -- the eyes asked for are a front of the words', up to the refusal, and each was given back
  pub asked : AsksFront told new (words_eyes told.contents left (request_of words))
  -- on 0 the totals grew by what the request takes
  pub totals : ran.status ≡ 0
      → IfSome (request_of words)
      (λ request. TookRight request told.contents left ran.totals_old ran.totals_new)
  -- the headline of the request
  pub headline : IsForeseen ran.status
      → IfSome (request_of words) (λ request. Headline request told.contents left report_failed ran)
