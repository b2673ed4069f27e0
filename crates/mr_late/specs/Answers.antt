-- What a run says of its status and its sinks, for the answer to its words.
use Rattle.std.specs.Prelude.{IfSome, List, None, Ok, Option, Some, [], ◌∷◌, ℕ, ◌≡◌, ◌≢◌}
use Rattle.mr_io.specs.Taking.{Held, Takes}
use Rattle.mr_io.specs.Telling.{AsksFront, Told}
use Rattle.mr_io.specs.declared.asked.Asked.{Asked}
use Rattle.mr_io.specs.declared.duty.Duty.TheVariants.{Text}
use Rattle.mr_model.specs.Code.{Code}
use Rattle.mr_steps.specs.Faults.{fault_line}
use Rattle.mr_steps.specs.Refusals.{refusal_of, status_by}
use Rattle.mr_steps.specs.Sinks.{HasLine, Output, Reports, TakesFront}
use Rattle.mr_steps.specs.Steps.{IsForeseen}
use Rattle.mr_steps.specs.Texts.{matrix_given}
use Rattle.mr_steps.specs.declared.fault.Fault.{Fault}
use Rattle.mr_steps.specs.declared.fault.Fault.TheVariants.{Usage}
use Rattle.mr_late.specs.Tables.{table_output}
use Rattle.mr_late.specs.Words.{late_words_of}
use Rattle.mr_late.specs.declared.words.TableWords.{TableWords}

-- the first refusal: words that are none, or the matrix
abbrev pub refusal : (List ℕ → List ℕ) → Option TableWords → Option Fault
refusal contents None = Some Usage
refusal contents (Some words) = refusal_of (matrix_given (contents words.matrix))

-- the eyes of the words' command
abbrev pub eyes_of : Option TableWords → List Asked
eyes_of None = []
eyes_of (Some words) = record { name = words.matrix; duty = Text } ∷ []

-- The words ask for a table of a matrix, and this is what it writes: a line for each loss of one
-- device or two, in order, each with the answer to its loss. The number of workers is not in it.
pub record IsAnswer (words : List (List ℕ)) (contents : List ℕ → List ℕ) (output : Output) : Type 0
  where
    pub request : TableWords
    pub is : late_words_of words ≡ Some request
    pub code : Code
    pub matrix : matrix_given (contents request.matrix) ≡ Ok code
    pub written : output ≡ table_output request.budget code

-- the status of a run, and its sinks before and after it
pub record Ran : Type 0 where
  pub status : ℕ
  pub out_old : Option Held
  pub out_new : Option Held
  pub report_old : Option Held
  pub report_new : Option Held

-- A run over files that tell this keeps to the answer to its words. The report failed in it, or any
-- of the outside did.
pub record Answers (words : List (List ℕ)) (told : Told) (new : Option Told)
    (report_failed failed : Type 0) (ran : Ran) : Type 0 where
  -- the status is that of the first refusal, or 0
  pub status : IsForeseen ran.status
      → ran.status ≡ status_by (refusal told.contents (late_words_of words))
  -- after a refusal the report has its line
  pub refused : (fault : Fault) → IsForeseen ran.status
      → refusal told.contents (late_words_of words) ≡ Some fault
      → HasLine ran.report_old ran.report_new report_failed (fault_line fault)
  -- on 0 the answer was written
  pub answered : ran.status ≡ 0 → (output : Output) × IsAnswer words told.contents output
      × Takes ran.out_old ran.out_new output.out × (ran.report_new ≡ ran.report_old)
  -- after a failed write a front of it
  pub cut : ran.status ≡ 10 → (output : Output) × IsAnswer words told.contents output
      × TakesFront ran.out_old ran.out_new output.out
  -- where nothing is refused and nothing failed, the status is 0, but for want of memory
  pub complete : refusal told.contents (late_words_of words) ≡ None → (failed → ⊥)
      → ran.status ≢ 11 → ran.status ≡ 0
  -- the eyes asked for are a front of the words', and each was given back
  pub asked : AsksFront told new (eyes_of (late_words_of words))
