-- What a run says of its status and its sinks, from what the image and the line gave.
use Rattle.std.proofs.Common.{arith, ◌≡◌, ◌≢◌, ◌⊎◌, inl, inr, ℕ, Option, None, Some, IfSome, Ok, Err, refl, sym, ◌∙◌, ap, subst}
use Rattle.std.specs.Option.{ForSome}
use Rattle.mr_array_words.specs.Gather.{GatherAsked}
use Rattle.mr_gather.specs.declared.stripes.Gathering.{Gathering}
use Rattle.mr_io.specs.Counts.{Rose}
use Rattle.mr_io.specs.Taking.{Held, Takes}
use Rattle.mr_io.specs.Telling.{Told}
use Rattle.mr_io.specs.declared.totals.Totals.{Totals}
use Rattle.mr_steps.specs.Faults.{fault_line, fault_status}
use Rattle.mr_steps.specs.Refusals.{Gave, refusal_of, status_by}
use Rattle.mr_steps.specs.Sinks.{HasLine, TakesFront}
use Rattle.mr_steps.specs.Steps.{IsForeseen, Reads}
use Rattle.mr_steps.specs.declared.fault.Fault.{Fault}
use Rattle.mr_steps.specs.declared.fault.Fault.TheVariants.{Memory, ReadFault, WriteFault}
use Rattle.mr_steps.proofs.Chains.{err_same}
use Rattle.mr_steps.proofs.FaultCases.{fault-cases, fault-positive, ran_of}
use Rattle.mr_steps.proofs.Sinks.{front_all}
use Rattle.mr_gather_run.specs.Answers.{Answers, HasFront}
use Rattle.mr_gather_run.specs.Slots.{HasCauses}
use Rattle.mr_gather_run.specs.Tasks.{gather_answer, gathered_file, task_in}

-- ---- after a refusal

module _ {O : Type 0} (held : O → Option Held) (asked : GatherAsked) (old new : Option Told) (fault : Fault) (status : ℕ) (o0 o1 : O)
    (report_old report_new : Option Held) (t0 t1 : Totals) (report_failed : Type 0) (f0 f1 k0 k1 : ℕ)
    (reads : Reads {X = Gathering} task_in old new (Err fault) (λ contents. gather_answer contents asked))
    (cause : HasCauses {X = Gathering} f0 f1 k0 k1 (Err fault)) (code : status ≡ fault_status fault)
    (line : HasLine report_old report_new report_failed (fault_line fault))
    (cut : (o1 ≡ o0) ⊎ ForSome old (λ told. Gave (gather_answer told.contents asked).result (λ task. TakesFront (held o0) (held o1) (gathered_file told.contents asked.devices task)))) where
  module _ (told : Told) (there : old ≡ Some told) where
    at-code : IsForeseen status → (gather_answer told.contents asked).result ≡ Err fault
    at-code foreseen = (reads told there).gives (subst IsForeseen code foreseen)

    not-zero : {X : Type 0} → status ≡ 0 → X
    not-zero zero = absurd (omega (arith, zero, code, fault-positive fault))

    front : HasFront asked told (ran_of status (held o0) (held o1) report_old report_new t0 t1)
    front = elim cut [
      | inl same ↦ inl (ap held same)
      | inr part ↦ inr (part told there)
    ]

    ends : refusal_of (gather_answer told.contents asked).result ≡ None → (Rose f0 f1 ⊎ (Rose k0 k1 ⊎ report_failed) → ⊥) → status ≢ 11
        → IsForeseen (fault_status fault) ⊎ ((fault ≡ ReadFault) ⊎ ((fault ≡ WriteFault) ⊎ (fault ≡ Memory))) → status ≡ 0
    ends none calm other (inl foreseen) =
        let clash : ◌≡◌ {A = Option Fault} None (Some fault) = sym none ∙ ap refusal_of ((reads told there).gives foreseen) in cc
    ends none calm other (inr (inl read)) = absurd (calm (inl (cause.failed (ap Err read))))
    ends none calm other (inr (inr (inl write))) = absurd (calm (inr (inl (cause.written (ap Err write)))))
    ends none calm other (inr (inr (inr memory))) = absurd (other (code ∙ ap fault_status memory))

    answers-err : Answers asked told new report_failed (Rose f0 f1 ⊎ (Rose k0 k1 ⊎ report_failed)) (ran_of status (held o0) (held o1) report_old report_new t0 t1)
    answers-err = record {
      status = λ foreseen. code ∙ sym (ap (λ r. status_by (refusal_of r)) (at-code foreseen));
      refused = λ f foreseen is. subst (λ x. HasLine report_old report_new report_failed (fault_line x)) (err_same (sym (at-code foreseen) ∙ is)) line;
      answered = not-zero;
      cut = λ _. front;
      complete = λ none calm other. ends none calm other (fault-cases fault);
      eyes = (reads told there).front;
      totals = not-zero;
    }

  pub run-err : IfSome old (λ told. Answers asked told new report_failed (Rose f0 f1 ⊎ (Rose k0 k1 ⊎ report_failed)) (ran_of status (held o0) (held o1) report_old report_new t0 t1))
  run-err = go old refl
    where
      go : (o : Option Told) → old ≡ o → IfSome o (λ told. Answers asked told new report_failed (Rose f0 f1 ⊎ (Rose k0 k1 ⊎ report_failed))
          (ran_of status (held o0) (held o1) report_old report_new t0 t1))
      go None e = tt
      go (Some told) e = answers-err told e

-- ---- after the line was not written

pub run-cut : (asked : GatherAsked) (old new : Option Told) (task : Gathering) (status : ℕ) (out_old out_new report_old report_new : Option Held)
    (t0 t1 : Totals) (read_failed out_failed report_failed : Type 0)
    → Reads task_in old new (Ok task) (λ contents. gather_answer contents asked)
    → ForSome old (λ told. Takes out_old out_new (gathered_file told.contents asked.devices (task_in task)))
    → status ≡ 10 → report_failed
    → IfSome old (λ told. Answers asked told new report_failed (read_failed ⊎ (out_failed ⊎ report_failed)) (ran_of status out_old out_new report_old report_new t0 t1))
run-cut asked None new task status out_old out_new report_old report_new t0 t1 read_failed out_failed report_failed reads put code failed = tt
run-cut asked (Some told) new task status out_old out_new report_old report_new t0 t1 read_failed out_failed report_failed reads put code failed = record {
  status = λ foreseen. absurd (foreseen.1 code);
  refused = λ fault foreseen is. absurd (foreseen.1 code);
  answered = λ zero. absurd (omega (arith, zero, code));
  cut = λ _. inr (record { value = task_in task; is = (reads told refl).gives; holds = front_all (put told refl) });
  complete = λ none calm other. absurd (calm (inr (inr failed)));
  eyes = (reads told refl).front;
  totals = λ zero. absurd (omega (arith, zero, code));
}
