-- A run that answers its words keeps to the headline.
use Rattle.std.proofs.Common.{arith, ◌≡◌, ℕ, List, drop, Option, Some, None, IfSome, Result, Ok, Err, refl, sym, ◌∙◌, ap, subst}
use Rattle.mr_model.specs.Code.{Code}
use Rattle.mr_least_words.specs.Words.{least_of}
use Rattle.mr_least_words.specs.declared.words.LeastWords.{LeastWords}
use Rattle.mr_plan.specs.PlanText.{plan_text}
use Rattle.mr_steps.specs.Faults.{fault_line}
use Rattle.mr_steps.specs.Lines.{line_text}
use Rattle.mr_steps.specs.Losses.{targets_given}
use Rattle.mr_steps.specs.Ran.{Ran, Wrote}
use Rattle.mr_steps.specs.Readings.{given, ◌>>=◌}
use Rattle.mr_steps.specs.Refusals.{Gave, followed_by, refusal_of, status_by}
use Rattle.mr_steps.specs.Requests.{or_usage}
use Rattle.mr_steps.specs.Sinks.{HasLine, Output}
use Rattle.mr_steps.specs.TextFiles.{matrix_file}
use Rattle.mr_steps.specs.Texts.{matrix_given}
use Rattle.mr_steps.specs.declared.fault.Fault.{Fault}
use Rattle.mr_steps.proofs.Given.{given-code, matrix-is, targets-loss}
use Rattle.mr_steps.proofs.LossRefused.{is-refused, past-ok}
use Rattle.mr_steps.proofs.Results.{ok-same, result-as}
use Rattle.mr_least.specs.Answer.{answer, least_answer, least_given, output_of}
use Rattle.mr_least.specs.Choice.{least_by}
use Rattle.mr_least.specs.Headline.{HasWritten, Headline}
use Rattle.mr_least.proofs.Wanting.{least-wanted}

-- what comes after the lost symbols
abbrev written : ℕ → Code → ℕ → Result Output Fault
written budget m targets = Ok (output_of (least_by m targets budget))

-- the result of a search, step by step
least-is : (contents : List ℕ → List ℕ) (matrix lost : List ℕ) (budget : ℕ) → (least_answer contents matrix lost budget).result
    ≡ followed_by (matrix_given (contents matrix)) (λ m. followed_by (targets_given m lost) (written budget m))
unfolding least_answer least_given
least-is contents matrix lost budget =
    result-as (matrix_file contents matrix) (λ m. given (least_given budget m lost)) (matrix_given (contents matrix))
    (λ m. followed_by (targets_given m lost) (written budget m)) (matrix-is contents matrix) (λ _. refl)

refused-same : {X : Type 0} (r : Result X Fault) (fault : Fault) → refusal_of r ≡ Some fault → r ≡ Err fault
refused-same (Ok x) fault e = let clash : ◌≡◌ {A = Option Fault} None (Some fault) = e in cc
refused-same {X} (Err other) fault e = let same : other ≡ fault = cc in ap (λ f. Err f) same

module _ (contents : List ℕ → List ℕ) (matrix lost : List ℕ) (budget : ℕ) (failed : Type 0) (ran : Ran)
    (status : ran.status ≡ status_by (refusal_of (least_answer contents matrix lost budget).result))
    (line : (fault : Fault) → (least_answer contents matrix lost budget).result ≡ Err fault → HasLine ran.report_old ran.report_new failed (fault_line fault))
    (wrote : ran.status ≡ 0 → Gave (least_answer contents matrix lost budget).result (λ output. Wrote ran output.out output.report)) where
  -- the answer, for a matrix and lost symbols that are read
  answer-at : (m : Code) (targets : ℕ) → matrix_given (contents matrix) ≡ Ok m → targets_given m lost ≡ Ok targets
      → (least_answer contents matrix lost budget).result ≡ written budget m targets
  answer-at m targets reads loses =
      least-is contents matrix lost budget
      ∙ ap (λ r. followed_by r (λ m. followed_by (targets_given m lost) (written budget m))) reads
      ∙ ap (λ r. followed_by r (written budget m)) loses

  written-at : (m : Code) (targets : ℕ) → matrix_given (contents matrix) ≡ Ok m → targets_given m lost ≡ Ok targets
      → Gave (least_answer contents matrix lost budget).result (λ output. Wrote ran output.out output.report) → HasWritten m targets budget ran
  written-at m targets reads loses gave = (
    (least_by m targets budget).plan,
    (least_by m targets budget).line,
    least-wanted m targets budget (targets-loss m lost targets (given-code (contents matrix) m reads) loses),
    subst (λ (output : Output). Wrote ran output.out output.report) (ok-same (sym gave.is ∙ answer-at m targets reads loses)) gave.holds,
  )

  pub headline-at : Headline contents matrix lost budget failed ran
  headline-at = record {
    refused = is-refused contents matrix lost (written budget) (refusal_of (least_answer contents matrix lost budget).result) failed ran
        (ap refusal_of (least-is contents matrix lost budget)) status
        (λ fault is. line fault (refused-same (least_answer contents matrix lost budget).result fault is)) (λ m targets. past-ok (output_of (least_by m targets budget)));
    written = λ zero m targets reads loses. written-at m targets reads loses (wrote zero);
  }

-- the result of the words' answer
answer-of : (words : List (List ℕ)) (contents : List ℕ → List ℕ) (asked : LeastWords) → least_of (drop 1 words) ≡ Some asked
    → (answer words contents).result ≡ (least_answer contents asked.matrix asked.lost asked.budget).result
unfolding answer
answer-of words contents asked e =
    ap (λ o. (given (or_usage o) >>= (λ (a : LeastWords). least_answer contents a.matrix a.lost a.budget)).result) e

module _ (words : List (List ℕ)) (contents : List ℕ → List ℕ) (failed : Type 0) (ran : Ran)
    (status : ran.status ≡ status_by (refusal_of (answer words contents).result))
    (line : (fault : Fault) → (answer words contents).result ≡ Err fault → HasLine ran.report_old ran.report_new failed (fault_line fault))
    (wrote : ran.status ≡ 0 → Gave (answer words contents).result (λ output. Wrote ran output.out output.report)) where
  by-words : (o : Option LeastWords) → least_of (drop 1 words) ≡ o
      → IfSome o (λ asked. Headline contents asked.matrix asked.lost asked.budget failed ran)
  by-words None e = tt
  by-words (Some asked) e =
      let same = answer-of words contents asked e in
      headline-at contents asked.matrix asked.lost asked.budget failed ran (status ∙ ap (λ r. status_by (refusal_of r)) same)
      (λ fault is. line fault (same ∙ is))
      (λ zero. subst (λ r. Gave r (λ (output : Output). Wrote ran output.out output.report)) same (wrote zero))

  pub headline-of : IfSome (least_of (drop 1 words)) (λ asked. Headline contents asked.matrix asked.lost asked.budget failed ran)
  headline-of = by-words (least_of (drop 1 words)) refl
