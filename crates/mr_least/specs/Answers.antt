-- What a run says of its status, its sinks and its totals, for the answer to its words.
use Rattle.std.specs.Prelude.{Err, IfSome, List, None, Ok, Option, drop, ℕ, ◌≡◌, ◌≢◌}
use Rattle.mr_io.specs.Growth.{grown}
use Rattle.mr_io.specs.Telling.{AsksFront, Told}
use Rattle.mr_least_words.specs.Words.{least_of}
use Rattle.mr_steps.specs.Faults.{fault_line}
use Rattle.mr_steps.specs.Ran.{Ran, Wrote}
use Rattle.mr_steps.specs.Refusals.{Gave, refusal_of, status_by}
use Rattle.mr_steps.specs.Sinks.{HasLine, Reports, TakesFront}
use Rattle.mr_steps.specs.Steps.{IsForeseen}
use Rattle.mr_steps.specs.declared.fault.Fault.{Fault}
use Rattle.mr_least.specs.Answer.{answer}
use Rattle.mr_least.specs.Headline.{Headline}

-- A run over files that tell this keeps to the answer to its words. The report failed in it, or any
-- of the outside did.
pub record Answers (words : List (List ℕ)) (told : Told) (new : Option Told)
    (report_failed failed : Type 0) (ran : Ran) : Type 0 where
  -- the status is that of the first refusal, or 0
  pub status : IsForeseen ran.status
      → ran.status ≡ status_by (refusal_of (answer words told.contents).result)
  -- after a refusal the report has its line
  pub refused : (fault : Fault) → IsForeseen ran.status
      → (answer words told.contents).result ≡ Err fault
      → HasLine ran.report_old ran.report_new report_failed (fault_line fault)
  -- on 0 the answer was written
  pub answered : ran.status ≡ 0
      → Gave (answer words told.contents).result (λ output. Wrote ran output.out output.report)
  -- after a failed write a front of it
  pub cut : ran.status ≡ 10
      → Gave (answer words told.contents).result
      (λ output. TakesFront ran.out_old ran.out_new output.out
      × Reports 10 (Ok output) ran.out_old ran.out_new ran.report_old ran.report_new report_failed)
  -- where nothing is refused and nothing failed, the status is 0, but for want of memory
  pub complete : refusal_of (answer words told.contents).result ≡ None → (failed → ⊥)
      → ran.status ≢ 11 → ran.status ≡ 0
  -- the eyes asked for are a front of the answer's, and each was given back
  pub asked : AsksFront told new (answer words told.contents).eyes
  -- on 0 the totals grew by what the answer takes
  pub totals : ran.status ≡ 0
      → ran.totals_new ≡ grown ran.totals_old (answer words told.contents).taken
  -- the headline
  pub headline : IsForeseen ran.status
      → IfSome (least_of (drop 1 words))
      (λ asked. Headline told.contents asked.matrix asked.lost asked.budget report_failed ran)
