-- What a run says, from what the words came to and from its report.
use Rattle.std.proofs.Common.{◌≡◌, ◌∙◌, ℕ, List, Option, Some, None, Result, Ok, Err, refl, sym, ap, subst, arith, inl, inr}
use Rattle.std.specs.Prelude.{◌≢◌, ◌⊎◌}
use Rattle.mr_array_words.specs.Scatter.{ScatterAsked}
use Rattle.mr_io.specs.Taking.{Held, Takes}
use Rattle.mr_devices.specs.Writing.{Shelf}
use Rattle.mr_steps.specs.Faults.{fault_status}
use Rattle.mr_steps.specs.Refusals.{Gave, refusal_of, status_by}
use Rattle.mr_steps.specs.Sinks.{HasLine, TakesFront}
use Rattle.mr_steps.specs.Steps.{IsForeseen}
use Rattle.mr_steps.specs.declared.fault.Fault.{Fault}
use Rattle.mr_steps.specs.declared.fault.Fault.TheVariants.{Memory, ReadFault, WriteFault}
use Rattle.mr_steps.proofs.Chains.{err_same}
use Rattle.mr_steps.proofs.FaultCases.{fault-cases, fault-positive}
use Rattle.mr_scatter_run.proofs.ScatterLaws.{answer-refused}
use Rattle.mr_scatter_run.specs.Answers.{Answers, Ran}
use Rattle.mr_scatter_run.specs.declared.end.End.{End}
use Rattle.mr_scatter_run.specs.Ends.{IsCut, Scatters}
use Rattle.mr_scatter_run.specs.Tasks.{Task, body_of, end_text, refusal_text, scatter_answer, scatter_line, task_of}

-- a run of this status, this report and these devices
abbrev pub ran_of : ℕ → Option Held → Option Held → Option Shelf → Ran
ran_of status old new devices = record { status = status; report_old = old; report_new = new; devices_new = devices }

module _ (contents : List ℕ → List ℕ) (left : List ℕ) (asked : ScatterAsked) (shelf : Shelf) (new : Option Shelf) (old_report new_report : Option Held) (report_failed read_failed devices_failed : Type 0) where
  -- ---- the run ended without its answer

  module _ {X : Type 0} (view : X → Task) (end : End) (status : ℕ) (scatters : Scatters view contents left asked shelf new (Err end)) (code : status ≡ fault_status end.fault)
      (line : HasLine old_report new_report report_failed (end_text end.stripes end.fault))
      (read : end.fault ≡ ReadFault → read_failed) (written : end.fault ≡ WriteFault → devices_failed) where
    known : IsForeseen status → IsForeseen (fault_status end.fault)
    known foreseen = subst IsForeseen code foreseen

    not-zero : {Y : Type 0} → status ≡ 0 → Y
    not-zero zero = absurd (omega (arith, zero, code, fault-positive end.fault))

    untouched-by : ((end.stripes ≡ None) × (new ≡ Some shelf)) ⊎ Gave (task_of contents left asked).result (λ task. IsCut asked.devices task (body_of left) shelf new end.stripes end.fault)
        → (fault : Fault) → (task_of contents left asked).result ≡ Err fault → new ≡ Some shelf
    untouched-by (inl same) fault refused = same.1
    untouched-by (inr gave) fault refused = let clash : ◌≡◌ {A = Result Task Fault} (Ok gave.value) (Err fault) = sym gave.is ∙ refused in cc

    ends : refusal_of (scatter_answer contents left asked).result ≡ None → (read_failed ⊎ (devices_failed ⊎ report_failed) → ⊥) → status ≢ 11
        → IsForeseen (fault_status end.fault) ⊎ ((end.fault ≡ ReadFault) ⊎ ((end.fault ≡ WriteFault) ⊎ (end.fault ≡ Memory))) → status ≡ 0
    ends none calm other (inl foreseen) = let clash : ◌≡◌ {A = Option Fault} None (Some end.fault) = sym none ∙ ap refusal_of (scatters.refusal foreseen).0 in cc
    ends none calm other (inr (inl is)) = absurd (calm (inl (read is)))
    ends none calm other (inr (inr (inl is))) = absurd (calm (inr (inl (written is))))
    ends none calm other (inr (inr (inr is))) = absurd (other (code ∙ ap fault_status is))

    pub answers-err : Answers contents left asked shelf report_failed (read_failed ⊎ (devices_failed ⊎ report_failed)) (ran_of status old_report new_report new)
    answers-err = record {
      status = λ foreseen. code ∙ sym (ap (λ r. status_by (refusal_of r)) (scatters.refusal (known foreseen)).0);
      refused = λ fault foreseen is.
          let same : end.fault ≡ fault = err_same (sym (scatters.refusal (known foreseen)).0 ∙ is) in
          subst (λ f. HasLine old_report new_report report_failed (refusal_text contents left asked f)) same
          (subst (λ text. HasLine old_report new_report report_failed text) (scatters.refusal (known foreseen)).1 line);
      answered = λ zero. not-zero zero;
      untouched = untouched-by scatters.cut;
      ended = λ other. inl (record { stripes = end.stripes; fault = end.fault; code = sym code; line = line; files = scatters.cut });
      complete = λ none calm other. ends none calm other (fault-cases end.fault);
    }

  -- ---- all is scattered

  module _ {X : Type 0} (view : X → Task) (ready : X) (scatters : Scatters view contents left asked shelf new (Ok ready)) where
    refused-none : {Y : Type 0} (fault : Fault) → (scatter_answer contents left asked).result ≡ Err fault → Y
    refused-none fault is = let clash : ◌≡◌ {A = Result Task Fault} (Ok (view ready)) (Err fault) = sym scatters.answer ∙ is in cc

    unrefused : {Y : Type 0} (fault : Fault) → (task_of contents left asked).result ≡ Err fault → Y
    unrefused fault is = refused-none fault (answer-refused contents left asked fault is)

    pub answers-ok : Takes old_report new_report (scatter_line (view ready))
        → Answers contents left asked shelf report_failed (read_failed ⊎ (devices_failed ⊎ report_failed)) (ran_of 0 old_report new_report new)
    answers-ok takes = record {
      status = λ foreseen. sym (ap (λ r. status_by (refusal_of r)) scatters.answer);
      refused = λ fault foreseen is. refused-none fault is;
      answered = λ zero. record { value = view ready; is = scatters.answer; holds = (takes, scatters.whole) };
      untouched = λ fault is. unrefused fault is;
      ended = λ other. absurd (other refl);
      complete = λ none calm other. refl;
    }

    pub answers-cut : (status : ℕ) → status ≡ 10 → TakesFront old_report new_report (scatter_line (view ready)) → report_failed
        → Answers contents left asked shelf report_failed (read_failed ⊎ (devices_failed ⊎ report_failed)) (ran_of status old_report new_report new)
    answers-cut status ten front failed = record {
      status = λ foreseen. absurd (foreseen.1 ten);
      refused = λ fault foreseen is. refused-none fault is;
      answered = λ zero. absurd (omega (arith, zero, ten));
      untouched = λ fault is. unrefused fault is;
      ended = λ other. inr (record { code = ten; failed = failed; gave = record { value = view ready; is = scatters.answer; holds = (front, scatters.whole) } });
      complete = λ none calm other. absurd (calm (inr (inr failed)));
    }
