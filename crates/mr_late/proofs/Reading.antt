-- The words and the matrix of a run, and the eyes that are asked for.
use Rattle.std.proofs.Common.{◌≡◌, ℕ, List, [], ◌∷◌, Option, Some, None, Result, Ok, Err, refl, sym, ◌∙◌, ap, subst}
use Rattle.mr_bits.specs.declared.errors.What.TheVariants.{MatrixBytes}
use Rattle.mr_form.specs.MatrixText.{matrix_of}
use Rattle.mr_io.specs.Telling.{Told}
use Rattle.mr_io.specs.declared.duty.Duty.TheVariants.{Text}
use Rattle.mr_model.specs.Code.{Code}
use Rattle.mr_words.specs.Reads.{Reads as ReadsWords}
use Rattle.mr_words.specs.declared.errors.WordsError.{WordsError}
use Rattle.mr_words.specs.declared.errors.WordsError.TheVariants.{Usage as IsUsage, Memory as WantsMemory}
use Rattle.mr_steps.specs.Faults.{IsWordsFault}
use Rattle.mr_steps.specs.Readings.{Reading, file, given, ◌>>=◌}
use Rattle.mr_steps.specs.Refusals.{Gave, followed_by, refusal_of}
use Rattle.mr_steps.specs.Sinks.{Output}
use Rattle.mr_steps.specs.Steps.{Reads}
use Rattle.mr_steps.specs.TextFiles.{matrix_file, text_file, text_within}
use Rattle.mr_steps.specs.Texts.{matrix_given, or_matrix_fault, within_limit}
use Rattle.mr_steps.specs.declared.fault.Fault.{Fault}
use Rattle.mr_steps.specs.declared.fault.Fault.TheVariants.{Usage}
use Rattle.mr_steps.proofs.Chains.{eyes-given, reads_given, reads_memory}
use Rattle.mr_steps.proofs.Given.{matrix-is}
use Rattle.mr_steps.proofs.Results.{gave-followed, refusal-followed, result-as}
use Rattle.mr_late.specs.Answers.{IsAnswer, eyes_of, refusal}
use Rattle.mr_late.specs.Tables.{answer_to, output_of, table_answer, table_output}
use Rattle.mr_late.specs.Words.{late_words_of}
use Rattle.mr_late.specs.declared.words.TableWords.{TableWords}
use Rattle.mr_late.specs.declared.tabled.Tabled.{Tabled}

-- words that are not read end the chain
pub words-refused : (old : Option Told) (o : Option TableWords) (error : WordsError) (fault : Fault) → ReadsWords o (Err error)
    → IsWordsFault error fault → Reads {X = Tabled} output_of old old (Err fault) (λ contents. answer_to o contents)
words-refused old o IsUsage fault none is =
    subst (λ (v : Option TableWords). Reads {X = Tabled} output_of old old (Err fault) (λ contents. answer_to v contents)) (sym none)
    (reads_given output_of old (Err fault) (Err Usage) (λ _. ap Err (sym is)))
words-refused old o WantsMemory fault none is =
    subst (λ (f : Fault). Reads {X = Tabled} output_of old old (Err f) (λ contents. answer_to o contents)) (sym is) (reads_memory output_of old (λ contents. answer_to o contents))

-- and words that are read go on
pub words-go-on : (old new : Option Told) (o : Option TableWords) (words : TableWords) (result : Result Tabled Fault) → o ≡ Some words
    → Reads output_of old new result (λ contents. table_answer words contents) → Reads output_of old new result (λ contents. answer_to o contents)
words-go-on old new o words result e h =
    subst (λ (v : Option TableWords). Reads output_of old new result (λ contents. answer_to v contents)) (sym e) h

-- ---- what is read

table-is : (contents : List ℕ → List ℕ) (words : TableWords)
    → (table_answer words contents).result ≡ followed_by (matrix_given (contents words.matrix)) (λ m. Ok (table_output words.budget m))
unfolding table_answer
table-is contents words =
    result-as (matrix_file contents words.matrix) (λ m. given (Ok (table_output words.budget m)))
    (matrix_given (contents words.matrix)) (λ m. Ok (table_output words.budget m)) (matrix-is contents words.matrix) (λ _. refl)

-- the first refusal
pub refusal-is : (contents : List ℕ → List ℕ) (o : Option TableWords) → refusal_of (answer_to o contents).result ≡ refusal contents o
refusal-is contents None = refl
refusal-is contents (Some words) = ap refusal_of (table-is contents words) ∙ refusal-followed (matrix_given (contents words.matrix)) (table_output words.budget)

-- the answer
pub answer-is : (words : List (List ℕ)) (contents : List ℕ → List ℕ) (output : Output) (o : Option TableWords) → late_words_of words ≡ o
    → (answer_to o contents).result ≡ Ok output → IsAnswer words contents output
answer-is words contents output None is e = let clash : ◌≡◌ {A = Result Output Fault} (Err Usage) (Ok output) = e in cc
answer-is words contents output (Some request) is e =
    let g : Gave (matrix_given (contents request.matrix)) (λ m. output ≡ table_output request.budget m) =
    gave-followed (matrix_given (contents request.matrix)) (table_output request.budget) output (sym (table-is contents request) ∙ e) in
    record { request = request; is = is; code = g.value; matrix = g.is; written = g.holds }

-- ---- the eyes

pub eyes-are : (contents : List ℕ → List ℕ) (o : Option TableWords) → (answer_to o contents).eyes ≡ eyes_of o
unfolding table_answer matrix_file text_file text_within
eyes-are contents None = refl
eyes-are contents (Some words) =
    eyes-given {Y = Output} (matrix_file contents words.matrix) (λ m. Ok (table_output words.budget m))
    ∙ eyes-given (text_file contents words.matrix MatrixBytes) (λ bytes. or_matrix_fault (matrix_of bytes))
    ∙ eyes-given (file contents words.matrix Text) (λ bytes. within_limit MatrixBytes bytes)
