-- What a run says of its status and its sinks, from what its answer and its sinks gave.
use Rattle.std.proofs.Common.{arith, ◌≡◌, ◌≢◌, ◌≤◌, ◌⊎◌, inl, inr, ℕ, List, Option, Some, None, IfSome, Result, Ok, Err, refl, sym, ◌∙◌, ap, subst}
use Rattle.mr_io.specs.Counts.{Rose}
use Rattle.mr_io.specs.Taking.{Held, Takes}
use Rattle.mr_io.specs.Telling.{AsksFront, Told}
use Rattle.mr_steps.specs.Faults.{fault_line, fault_status}
use Rattle.mr_steps.specs.Refusals.{refusal_of, status_by}
use Rattle.mr_steps.specs.Sinks.{HasLine, IsReported, TakesFront}
use Rattle.mr_steps.specs.Steps.{HasReadCause, IsForeseen, Reads}
use Rattle.mr_steps.specs.declared.fault.Fault.{Fault}
use Rattle.mr_steps.specs.declared.fault.Fault.TheVariants.{ReadFault, WriteFault, Memory}
use Rattle.mr_steps.proofs.FaultCases.{fault-cases, fault-positive, is-write, some-same}
use Rattle.mr_late.specs.Answers.{Answers, Ran, eyes_of, refusal}
use Rattle.mr_late.specs.Tables.{answer_to, output_of}
use Rattle.mr_late.specs.Words.{late_words_of}
use Rattle.mr_late.specs.declared.tabled.Tabled.{Tabled}
use Rattle.mr_late.proofs.Reading.{answer-is, eyes-are, refusal-is}

-- a run of this status and these sinks
abbrev pub ran_of : ℕ → Option Held → Option Held → Option Held → Option Held → Ran
ran_of status out_old out_new report_old report_new =
    record { status = status; out_old = out_old; out_new = out_new; report_old = report_old; report_new = report_new }

-- ---- after a refusal

module _ (words : List (List ℕ)) (told : Told) (new : Option Told) (fault : Fault) (status : ℕ)
    (out_old out_new report_old report_new : Option Held) (report_failed read_failed sink_failed : Type 0)
    (gives : IsForeseen (fault_status fault) → (answer_to (late_words_of words) told.contents).result ≡ Err fault)
    (no_write : fault ≡ WriteFault → ⊥) (failed : fault ≡ ReadFault → read_failed) (code : status ≡ fault_status fault)
    (line : HasLine report_old report_new report_failed (fault_line fault))
    (asks : AsksFront told new (eyes_of (late_words_of words))) where
  refused-by : IsForeseen (fault_status fault) → refusal told.contents (late_words_of words) ≡ Some fault
  refused-by foreseen = sym (refusal-is told.contents (late_words_of words)) ∙ ap refusal_of (gives foreseen)

  at-code : IsForeseen status → IsForeseen (fault_status fault)
  at-code foreseen = subst IsForeseen code foreseen

  ends : refusal told.contents (late_words_of words) ≡ None → (read_failed ⊎ sink_failed → ⊥) → status ≢ 11
      → IsForeseen (fault_status fault) ⊎ ((fault ≡ ReadFault) ⊎ ((fault ≡ WriteFault) ⊎ (fault ≡ Memory))) → status ≡ 0
  ends none calm other (inl foreseen) =
      let clash : ◌≡◌ {A = Option Fault} None (Some fault) = sym none ∙ refused-by foreseen in cc
  ends none calm other (inr (inl read)) = absurd (calm (inl (failed read)))
  ends none calm other (inr (inr (inl write))) = absurd (no_write write)
  ends none calm other (inr (inr (inr memory))) = absurd (other (code ∙ ap fault_status memory))

  answers-err : Answers words told new report_failed (read_failed ⊎ sink_failed) (ran_of status out_old out_new report_old report_new)
  answers-err = record {
    status = λ foreseen. code ∙ sym (ap status_by (refused-by (at-code foreseen)));
    refused = λ f foreseen is.
        subst (λ x. HasLine report_old report_new report_failed (fault_line x)) (some-same (sym (refused-by (at-code foreseen)) ∙ is)) line;
    answered = λ zero. absurd (omega (arith, zero, code, fault-positive fault));
    cut = λ ten. absurd (no_write (is-write fault (sym code ∙ ten)));
    complete = λ none calm other. ends none calm other (fault-cases fault);
    asked = asks;
  }

-- the eyes asked for are a front of the words'
asks-words : (words : List (List ℕ)) (told : Told) (new : Option Told) → AsksFront told new (answer_to (late_words_of words) told.contents).eyes
    → AsksFront told new (eyes_of (late_words_of words))
asks-words words told new h = subst (λ eyes. AsksFront told new eyes) (eyes-are told.contents (late_words_of words)) h

pub run-err : (words : List (List ℕ)) (old new : Option Told) (fault : Fault) (f0 f1 status : ℕ)
    (out_old out_new report_old report_new : Option Held) (report_failed sink_failed : Type 0)
    → Reads {X = Tabled} output_of old new (Err fault) (λ contents. answer_to (late_words_of words) contents)
    → HasReadCause {X = Tabled} f0 f1 (Err fault) → status ≡ fault_status fault
    → HasLine report_old report_new report_failed (fault_line fault)
    → IfSome old (λ told. Answers words told new report_failed (Rose f0 f1 ⊎ sink_failed) (ran_of status out_old out_new report_old report_new))
run-err words None new fault f0 f1 status out_old out_new report_old report_new report_failed sink_failed reads cause code line = tt
run-err words (Some told) new fault f0 f1 status out_old out_new report_old report_new report_failed sink_failed reads cause code line =
    answers-err words told new fault status out_old out_new report_old report_new report_failed (Rose f0 f1) sink_failed (reads told refl).gives
    (λ is. cause.no_write (ap Err is)) (λ is. cause.failed (ap Err is)) code line (asks-words words told new (reads told refl).front)

-- ---- after an answer

zero-unless : (status : ℕ) → (status ≡ 10 → ⊥) → (status ≡ 0) ⊎ (status ≡ 10) → status ≡ 0
zero-unless status other (inl zero) = zero
zero-unless status other (inr ten) = absurd (other ten)

pub run-ok : (words : List (List ℕ)) (old new : Option Told) (tabled : Tabled) (status : ℕ)
    (out_old out_new report_old report_new : Option Held) (report_failed read_failed sink_failed : Type 0)
    → Reads output_of old new (Ok tabled) (λ contents. answer_to (late_words_of words) contents)
    → (status ≡ 0) ⊎ (status ≡ 10) → (status ≡ 0 → Takes out_old out_new (output_of tabled).out) → (status ≡ 0 → report_new ≡ report_old)
    → (status ≡ 10 → TakesFront out_old out_new (output_of tabled).out) → (status ≡ 10 → sink_failed)
    → IfSome old (λ told. Answers words told new report_failed (read_failed ⊎ sink_failed) (ran_of status out_old out_new report_old report_new))
run-ok words None new tabled status out_old out_new report_old report_new report_failed read_failed sink_failed reads is written kept front failed = tt
run-ok words (Some told) new tabled status out_old out_new report_old report_new report_failed read_failed sink_failed reads is written kept front failed =
    let gives = (reads told refl).gives in
    let answer = answer-is words told.contents (output_of tabled) (late_words_of words) refl gives in
    let none : refusal told.contents (late_words_of words) ≡ None = sym (refusal-is told.contents (late_words_of words)) ∙ ap refusal_of gives in
    record {
      status = λ foreseen. zero-unless status foreseen.1 is ∙ sym (ap status_by none);
      refused = λ f foreseen refuses. let clash : ◌≡◌ {A = Option Fault} None (Some f) = sym none ∙ refuses in cc;
      answered = λ zero. (output_of tabled, answer, written zero, kept zero);
      cut = λ ten. (output_of tabled, answer, front ten);
      complete = λ _ calm other. zero-unless status (λ ten. calm (inr (failed ten))) is;
      asked = asks-words words told new (reads told refl).front;
    }

-- the line of a run that answered
pub line-ok : (status : ℕ) (report_old report_new : Option Held) (failed : Type 0) → (status ≡ 0) ⊎ (status ≡ 10)
    → (status ≡ 10 → HasLine report_old report_new failed (fault_line WriteFault)) → status ≢ 0 → IsReported status report_old report_new failed
line-ok status report_old report_new failed (inl zero) line other = absurd (other zero)
line-ok status report_old report_new failed (inr ten) line other = inl (WriteFault, sym ten, line ten)
