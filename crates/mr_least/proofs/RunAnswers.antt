-- What a run says of its status and its sinks, from what its answer and its sinks gave.
use Rattle.std.proofs.Common.{arith, ◌≡◌, ◌≢◌, ◌⊎◌, inl, inr, ℕ, List, Option, Some, None, IfSome, Result, Ok, Err, refl, sym, ◌∙◌, ap, subst}
use Rattle.mr_io.specs.Counts.{Rose}
use Rattle.mr_io.specs.Growth.{grown}
use Rattle.mr_io.specs.Taking.{Held, Takes}
use Rattle.mr_io.specs.Telling.{AsksFront, Told}
use Rattle.mr_io.specs.declared.totals.Totals.{Totals}
use Rattle.mr_choices.specs.declared.chosen.ChosenPlan.{ChosenPlan}
use Rattle.mr_steps.specs.Faults.{fault_line, fault_status}
use Rattle.mr_steps.specs.Ran.{Ran}
use Rattle.mr_steps.specs.Refusals.{Gave, refusal_of, status_by}
use Rattle.mr_steps.specs.Sinks.{HasLine, Output, Reports, TakesFront}
use Rattle.mr_steps.specs.Steps.{Grows, HasReadCause, IsForeseen, Reads}
use Rattle.mr_steps.specs.declared.fault.Fault.{Fault}
use Rattle.mr_steps.specs.declared.fault.Fault.TheVariants.{Memory, ReadFault, WriteFault}
use Rattle.mr_steps.proofs.Chains.{err_same}
use Rattle.mr_steps.proofs.FaultCases.{fault-cases, fault-positive, is-write, ran_of}
use Rattle.mr_least.specs.Answer.{answer, output_of}
use Rattle.mr_least.specs.Answers.{Answers}
use Rattle.mr_least.proofs.HeadlineRight.{headline-of}

-- ---- after a refusal

module _ (words : List (List ℕ)) (told : Told) (new : Option Told) (fault : Fault) (status : ℕ)
    (out_old out_new report_old report_new : Option Held) (t0 t1 : Totals) (report_failed read_failed sink_failed : Type 0)
    (gives : IsForeseen (fault_status fault) → (answer words told.contents).result ≡ Err fault)
    (no_write : fault ≡ WriteFault → ⊥) (failed : fault ≡ ReadFault → read_failed) (code : status ≡ fault_status fault)
    (line : HasLine report_old report_new report_failed (fault_line fault))
    (asks : AsksFront told new (answer words told.contents).eyes) where
  at-code : IsForeseen status → (answer words told.contents).result ≡ Err fault
  at-code foreseen = gives (subst IsForeseen code foreseen)

  line-of : (f : Fault) → IsForeseen status → (answer words told.contents).result ≡ Err f → HasLine report_old report_new report_failed (fault_line f)
  line-of f foreseen is = subst (λ x. HasLine report_old report_new report_failed (fault_line x)) (err_same (sym (at-code foreseen) ∙ is)) line

  status-of : IsForeseen status → status ≡ status_by (refusal_of (answer words told.contents).result)
  status-of foreseen = code ∙ sym (ap (λ r. status_by (refusal_of r)) (at-code foreseen))

  not-zero : {X : Type 0} → status ≡ 0 → X
  not-zero zero = absurd (omega (arith, zero, code, fault-positive fault))

  ends : refusal_of (answer words told.contents).result ≡ None → (read_failed ⊎ sink_failed → ⊥) → status ≢ 11
      → IsForeseen (fault_status fault) ⊎ ((fault ≡ ReadFault) ⊎ ((fault ≡ WriteFault) ⊎ (fault ≡ Memory))) → status ≡ 0
  ends none calm other (inl foreseen) =
      let clash : ◌≡◌ {A = Option Fault} None (Some fault) = sym none ∙ ap refusal_of (gives foreseen) in cc
  ends none calm other (inr (inl read)) = absurd (calm (inl (failed read)))
  ends none calm other (inr (inr (inl write))) = absurd (no_write write)
  ends none calm other (inr (inr (inr memory))) = absurd (other (code ∙ ap fault_status memory))

  answers-err : Answers words told new report_failed (read_failed ⊎ sink_failed) (ran_of status out_old out_new report_old report_new t0 t1)
  answers-err = record {
    status = status-of;
    refused = line-of;
    answered = not-zero;
    cut = λ ten. absurd (no_write (is-write fault (sym code ∙ ten)));
    complete = λ none calm other. ends none calm other (fault-cases fault);
    asked = asks;
    totals = not-zero;
    headline = λ foreseen. headline-of words told.contents report_failed (ran_of status out_old out_new report_old report_new t0 t1)
        (status-of foreseen) (λ f is. line-of f foreseen is) not-zero;
  }

pub run-err : (words : List (List ℕ)) (old new : Option Told) (t0 t1 : Totals) (fault : Fault) (f0 f1 status : ℕ)
    (out_old out_new report_old report_new : Option Held) (report_failed sink_failed : Type 0)
    → Reads {X = ChosenPlan} output_of old new (Err fault) (λ contents. answer words contents)
    → HasReadCause {X = ChosenPlan} f0 f1 (Err fault) → status ≡ fault_status fault
    → HasLine report_old report_new report_failed (fault_line fault)
    → IfSome old (λ told. Answers words told new report_failed (Rose f0 f1 ⊎ sink_failed) (ran_of status out_old out_new report_old report_new t0 t1))
run-err words None new t0 t1 fault f0 f1 status out_old out_new report_old report_new report_failed sink_failed reads cause code line = tt
run-err words (Some told) new t0 t1 fault f0 f1 status out_old out_new report_old report_new report_failed sink_failed reads cause code line =
    answers-err words told new fault status out_old out_new report_old report_new t0 t1 report_failed (Rose f0 f1) sink_failed
    (reads told refl).gives (λ is. cause.no_write (ap Err is)) (λ is. cause.failed (ap Err is)) code line (reads told refl).front

-- ---- after an answer

module _ (words : List (List ℕ)) (told : Told) (new : Option Told) (output : Output) (status : ℕ)
    (out_old out_new report_old report_new : Option Held) (t0 t1 : Totals) (report_failed read_failed sink_failed : Type 0)
    (gives : (answer words told.contents).result ≡ Ok output)
    (took : t1 ≡ grown t0 (answer words told.contents).taken)
    (is : (status ≡ 0) ⊎ (status ≡ 10))
    (written : status ≡ 0 → Takes out_old out_new output.out × Takes report_old report_new output.report)
    (front : status ≡ 10 → TakesFront out_old out_new output.out)
    (reports : status ≡ 10 → Reports 10 (Ok output) out_old out_new report_old report_new report_failed)
    (failed : status ≡ 10 → sink_failed)
    (asks : AsksFront told new (answer words told.contents).eyes) where
  zero-unless : (status ≡ 10 → ⊥) → (status ≡ 0) ⊎ (status ≡ 10) → status ≡ 0
  zero-unless other (inl zero) = zero
  zero-unless other (inr ten) = absurd (other ten)

  zero-of : IsForeseen status → status ≡ status_by (refusal_of (answer words told.contents).result)
  zero-of foreseen = zero-unless foreseen.1 is ∙ sym (ap (λ r. status_by (refusal_of r)) gives)

  none-refused : {X : Type 0} (f : Fault) → (answer words told.contents).result ≡ Err f → X
  none-refused f refuses = let clash : ◌≡◌ {A = Result Output Fault} (Ok output) (Err f) = sym gives ∙ refuses in cc

  answers-ok : Answers words told new report_failed (read_failed ⊎ sink_failed) (ran_of status out_old out_new report_old report_new t0 t1)
  answers-ok = record {
    status = zero-of;
    refused = λ f foreseen refuses. none-refused f refuses;
    answered = λ zero. record { value = output; is = gives; holds = written zero };
    cut = λ ten. record { value = output; is = gives; holds = (front ten, reports ten) };
    complete = λ none calm other. zero-unless (λ ten. calm (inr (failed ten))) is;
    asked = asks;
    totals = λ _. took;
    headline = λ foreseen. headline-of words told.contents report_failed (ran_of status out_old out_new report_old report_new t0 t1)
        (zero-of foreseen) (λ f refuses. none-refused f refuses) (λ zero. record { value = output; is = gives; holds = written zero });
  }

pub run-ok : (words : List (List ℕ)) (old new : Option Told) (t0 t1 : Totals) (chosen : ChosenPlan) (status : ℕ)
    (out_old out_new report_old report_new : Option Held) (report_failed read_failed sink_failed : Type 0)
    → Reads output_of old new (Ok chosen) (λ contents. answer words contents)
    → Grows {X = ChosenPlan} old t0 t1 (Ok chosen) (λ contents. answer words contents)
    → (status ≡ 0) ⊎ (status ≡ 10)
    → (status ≡ 0 → Takes out_old out_new (output_of chosen).out × Takes report_old report_new (output_of chosen).report)
    → (status ≡ 10 → TakesFront out_old out_new (output_of chosen).out)
    → (status ≡ 10 → Reports 10 (Ok (output_of chosen)) out_old out_new report_old report_new report_failed)
    → (status ≡ 10 → sink_failed)
    → IfSome old (λ told. Answers words told new report_failed (read_failed ⊎ sink_failed) (ran_of status out_old out_new report_old report_new t0 t1))
run-ok words None new t0 t1 chosen status out_old out_new report_old report_new report_failed read_failed sink_failed reads grows is written front reports failed = tt
run-ok words (Some told) new t0 t1 chosen status out_old out_new report_old report_new report_failed read_failed sink_failed reads grows is written front reports failed =
    answers-ok words told new (output_of chosen) status out_old out_new report_old report_new t0 t1 report_failed read_failed sink_failed
    (reads told refl).gives (grows told refl) is written front reports failed (reads told refl).front
