-- What a run says of its status and its sinks, from what its answer and its sinks gave.
use Rattle.std.proofs.Common.{arith, ◌≡◌, ◌≢◌, ◌⊎◌, inl, inr, ℕ, List, Option, Some, None, IfSome, Ok, Err, option_map, refl, sym, ◌∙◌, ap, subst}
use Rattle.std.specs.Option.{ForSome}
use Rattle.mr_io.specs.Counts.{Rose}
use Rattle.mr_io.specs.Taking.{Held, Takes}
use Rattle.mr_io.specs.Growth.{GrewWithin}
use Rattle.mr_io.specs.Sights.{Sight}
use Rattle.mr_io.specs.Telling.{AsksFront, Told, told_returning}
use Rattle.mr_io.specs.declared.totals.Totals.{Totals}
use Rattle.mr_ready.specs.Carrying.{image_told}
use Rattle.mr_ready.specs.Orders.{parts_of_order}
use Rattle.mr_ready.specs.Reads.{least_reads, most_reads}
use Rattle.mr_ready.specs.Writing.{IsOutput, WritesAll, WritesFront}
use Rattle.mr_ready.specs.declared.ready.Ready.{Ready as ReadyImage}
use Rattle.mr_steps.specs.Refusals.{refusal_of, status_by}
use Rattle.mr_steps.specs.Sinks.{Output, IsReported, HasLine, Reports, TakesFront}
use Rattle.mr_steps.proofs.FaultCases.{fault-cases, fault-positive, is-write, ran_of, some-same}
use Rattle.mr_top.specs.Commands.{answer}
use Rattle.mr_top.specs.Answered.{IsAnswer, words_refusal}
use Rattle.mr_top.specs.Eyes.{words_eyes}
use Rattle.mr_steps.specs.Faults.{fault_line, fault_status}
use Rattle.mr_top.specs.Answers.{Answers}
use Rattle.mr_top.specs.Ran.{Wrote}
use Rattle.mr_top.proofs.TakenRight.{words-took}
use Rattle.mr_top.proofs.EyesRight.{words-eyes}
use Rattle.mr_top.proofs.HeadlineRight.{headline-of}
use Rattle.mr_top.specs.Findings.{Finding, MayWrite, rebuilding, writing}
use Rattle.mr_top.specs.Outcomes.{eyes_held, finding_of, told_after}
use Rattle.mr_top.specs.Replies.{output_of}
use Rattle.mr_steps.specs.Requests.{request_of}
use Rattle.mr_steps.specs.Steps.{FollowsWith, HasReadCauses, IsForeseen, IsLeft}
use Rattle.mr_top.specs.Taken.{TookRight}
use Rattle.mr_steps.specs.declared.fault.Fault.{Fault}
use Rattle.mr_steps.specs.declared.fault.Fault.TheVariants.{ReadFault, WriteFault, Memory}
use Rattle.mr_top.specs.declared.outcome.Outcome.{Outcome}
use Rattle.mr_top.specs.declared.outcome.Outcome.TheVariants.{Ready, Reply}
use Rattle.mr_top.specs.declared.reply.Reply.{Reply as OwnReply}
use Rattle.mr_top.proofs.Answering.{is-answer, words-refusal-is, words-told}

-- what was asked for besides is a front of the words' eyes
asked-words : (words : List (List ℕ)) (told : Told) (new : Option Told) (left : List ℕ) → AsksFront told new (answer words told.contents left).eyes
    → AsksFront told new (words_eyes told.contents left (request_of words))
asked-words words told new left h = subst (λ eyes. AsksFront told new eyes) (words-eyes words told.contents left) h

-- ---- after a refusal

module _ (words : List (List ℕ)) (told : Told) (new : Option Told) (left : List ℕ) (fault : Fault) (status : ℕ)
    (out_old out_new report_old report_new : Option Held) (t0 t1 : Totals) (report_failed read_failed sink_failed : Type 0)
    (gives : IsForeseen (fault_status fault) → (answer words told.contents left).result ≡ Err fault)
    (no_write : fault ≡ WriteFault → ⊥) (failed : fault ≡ ReadFault → read_failed) (code : status ≡ fault_status fault)
    (line : HasLine report_old report_new report_failed (fault_line fault))
    (asks : AsksFront told new (words_eyes told.contents left (request_of words))) where
  refused-by : IsForeseen (fault_status fault) → words_refusal told.contents left (request_of words) ≡ Some fault
  refused-by foreseen = sym (words-refusal-is words told.contents left) ∙ ap refusal_of (gives foreseen)

  at-code : IsForeseen status → IsForeseen (fault_status fault)
  at-code foreseen = subst IsForeseen code foreseen

  ends : words_refusal told.contents left (request_of words) ≡ None → (read_failed ⊎ sink_failed → ⊥) → status ≢ 11
      → IsForeseen (fault_status fault) ⊎ ((fault ≡ ReadFault) ⊎ ((fault ≡ WriteFault) ⊎ (fault ≡ Memory))) → status ≡ 0
  ends none calm other (inl foreseen) =
      let clash : ◌≡◌ {A = Option Fault} None (Some fault) = sym none ∙ refused-by foreseen in cc
  ends none calm other (inr (inl read)) = absurd (calm (inl (failed read)))
  ends none calm other (inr (inr (inl write))) = absurd (no_write write)
  ends none calm other (inr (inr (inr memory))) = absurd (other (code ∙ ap fault_status memory))

  answers-err : Answers words told new left report_failed (read_failed ⊎ sink_failed)
      (ran_of status out_old out_new report_old report_new t0 t1)
  answers-err = record {
    status = λ foreseen. code ∙ sym (ap status_by (refused-by (at-code foreseen)));
    refused = λ f foreseen is.
        subst (λ x. HasLine report_old report_new report_failed (fault_line x)) (some-same (sym (refused-by (at-code foreseen)) ∙ is)) line;
    answered = λ zero. absurd (omega (arith, zero, code, fault-positive fault));
    cut = λ ten. absurd (no_write (is-write fault (sym code ∙ ten)));
    complete = λ none calm other. ends none calm other (fault-cases fault);
    headline = λ foreseen. headline-of words told.contents left report_failed (ran_of status out_old out_new report_old report_new t0 t1)
        (code ∙ sym (ap status_by (refused-by (at-code foreseen))))
        (λ f is. subst (λ x. HasLine report_old report_new report_failed (fault_line x)) (some-same (sym (refused-by (at-code foreseen)) ∙ is)) line)
        (λ zero. absurd (omega (arith, zero, code, fault-positive fault)))
        (λ zero. absurd (omega (arith, zero, code, fault-positive fault)));
    asked = asks;
    totals = λ zero. absurd (omega (arith, zero, code, fault-positive fault));
  }

pub run-err : {E : Type 0} (sight : E → Sight) (words : List (List ℕ)) (old new : Option Told) (t0 t1 : Totals) (script : Option (List ℕ)) (fault : Fault) (f0 f1 s0 s1 status : ℕ)
    (out_old out_new report_old report_new : Option Held) (report_failed sink_failed : Type 0)
    → FollowsWith {X = Outcome E} (finding_of sight) old new t0 t1 script (Err fault) (λ contents left. answer words contents left)
    → HasReadCauses {X = Outcome E} f0 f1 s0 s1 (Err fault) → status ≡ fault_status fault
    → HasLine report_old report_new report_failed (fault_line fault)
    → IfSome old (λ told. (left : List ℕ) × IsLeft script left
    × Answers words told new left report_failed ((Rose f0 f1 ⊎ Rose s0 s1) ⊎ sink_failed)
    (ran_of status out_old out_new report_old report_new t0 t1))
run-err sight words None new t0 t1 script fault f0 f1 s0 s1 status out_old out_new report_old report_new report_failed sink_failed follows cause code line = tt
run-err sight words (Some told) new t0 t1 script fault f0 f1 s0 s1 status out_old out_new report_old report_new report_failed sink_failed follows cause code line = (
  follows.left,
  follows.is,
  answers-err words told new follows.left fault status out_old out_new report_old report_new t0 t1
      report_failed (Rose f0 f1 ⊎ Rose s0 s1) sink_failed (follows.reads told refl).gives (λ is. cause.no_write (ap Err is)) (λ is. cause.failed (ap Err is)) code line (asked-words words told new follows.left (follows.reads told refl).front),
)

-- ---- after an answer

module _ (words : List (List ℕ)) (told : Told) (new : Option Told) (left : List ℕ) (found : Finding) (status : ℕ)
    (out_old out_new report_old report_new : Option Held) (t0 t1 : Totals) (report_failed read_failed sink_failed : Type 0)
    (gives : (answer words told.contents left).result ≡ Ok found)
    (took : status ≡ 0 → IfSome (request_of words) (λ request. TookRight request told.contents left t0 t1))
    (is : (status ≡ 0) ⊎ ((status ≡ 9) ⊎ (status ≡ 10)))
    (written : status ≡ 0 → (output : Output) × MayWrite found output × Wrote (ran_of status out_old out_new report_old report_new t0 t1) output.out output.report)
    (cut : status ≡ 10 → (output : Output) × MayWrite found output × TakesFront out_old out_new output.out
    × Reports 10 (Ok output) out_old out_new report_old report_new report_failed)
    (read : status ≡ 9 → read_failed) (failed : status ≡ 10 → sink_failed)
    (asks : AsksFront told new (words_eyes told.contents left (request_of words))) where
  none-refused : words_refusal told.contents left (request_of words) ≡ None
  none-refused = sym (words-refusal-is words told.contents left) ∙ ap refusal_of gives

  zero-unless : (status ≡ 9 → ⊥) → (status ≡ 10 → ⊥) → status ≡ 0
  zero-unless nine ten = elim is [
    | inl zero ↦ zero
    | inr (inl e) ↦ absurd (nine e)
    | inr (inr e) ↦ absurd (ten e)
  ]

  answered-by : status ≡ 0 → (output : Output) × IsAnswer words told.contents left output × Wrote (ran_of status out_old out_new report_old report_new t0 t1) output.out output.report
  answered-by zero = let w = written zero in (w.0, is-answer words told.contents left found w.0 gives w.1, w.2)

  answers-ok : Answers words told new left report_failed (read_failed ⊎ sink_failed)
      (ran_of status out_old out_new report_old report_new t0 t1)
  answers-ok = record {
    status = λ foreseen. zero-unless foreseen.0 foreseen.1 ∙ sym (ap status_by none-refused);
    refused = λ f foreseen refuses. let clash : ◌≡◌ {A = Option Fault} None (Some f) = sym none-refused ∙ refuses in cc;
    answered = answered-by;
    cut = λ ten. let w = cut ten in (w.0, is-answer words told.contents left found w.0 gives w.1, w.2, w.3);
    complete = λ none calm other. zero-unless (λ nine. calm (inl (read nine))) (λ ten. calm (inr (failed ten)));
    headline = λ foreseen. headline-of words told.contents left report_failed (ran_of status out_old out_new report_old report_new t0 t1)
        (zero-unless foreseen.0 foreseen.1 ∙ sym (ap status_by none-refused))
        (λ f refuses. let clash : ◌≡◌ {A = Option Fault} None (Some f) = sym none-refused ∙ refuses in cc)
        answered-by took;
    asked = asks;
    totals = took;
  }

-- a reply that is written
pub run-reply : {E : Type 0} (sight : E → Sight) (words : List (List ℕ)) (old new : Option Told) (t0 t1 : Totals) (script : Option (List ℕ)) (reply : OwnReply) (status : ℕ)
    (out_old out_new report_old report_new : Option Held) (report_failed read_failed sink_failed : Type 0)
    → FollowsWith {X = Outcome E} (finding_of sight) old new t0 t1 script (Ok (Reply reply)) (λ contents left. answer words contents left)
    → (status ≡ 0) ⊎ (status ≡ 10)
    → (status ≡ 0 → Takes out_old out_new (output_of reply).out × Takes report_old report_new (output_of reply).report)
    → (status ≡ 10 → TakesFront out_old out_new (output_of reply).out)
    → (status ≡ 10 → Reports 10 (Ok (output_of reply)) out_old out_new report_old report_new report_failed)
    → (status ≡ 10 → sink_failed)
    → IfSome old (λ told. (left : List ℕ) × IsLeft script left
    × Answers words told new left report_failed (read_failed ⊎ sink_failed)
    (ran_of status out_old out_new report_old report_new t0 t1))
run-reply sight words None new t0 t1 script reply status out_old out_new report_old report_new report_failed read_failed sink_failed follows is written front reports failed = tt
run-reply sight words (Some told) new t0 t1 script reply status out_old out_new report_old report_new report_failed read_failed sink_failed follows is written front reports failed = (
  follows.left,
  follows.is,
  answers-ok words told new follows.left (writing (output_of reply)) status out_old out_new report_old report_new t0 t1
      report_failed read_failed sink_failed (follows.reads told refl).gives
      (λ _. words-took words told.contents follows.left (writing (output_of reply)) t0 t1 t1 (follows.reads told refl).gives (follows.grows told refl) refl)
      (elim is [ inl zero ↦ inl zero | inr ten ↦ inr (inr ten) ])
      (λ zero. (output_of reply, refl, written zero))
      (λ ten. (output_of reply, refl, front ten, reports ten))
      (λ nine. absurd (not-nine nine is)) failed
      (asked-words words told new follows.left (follows.reads told refl).front),
)
  where
    not-nine : status ≡ 9 → (status ≡ 0) ⊎ (status ≡ 10) → ⊥
    not-nine nine (inl zero) = omega (arith, nine, zero)
    not-nine nine (inr ten) = omega (arith, nine, ten)

-- what an answer follows, by what it is
module _ {E : Type 0} (sight : E → Sight) (words : List (List ℕ)) (old mid : Option Told) (t0 t1 : Totals) (script : Option (List ℕ)) (outcome : Outcome E) where
  pub reply-follows : (reply : OwnReply) → outcome ≡ Reply reply
      → FollowsWith {X = Outcome E} (finding_of sight) old (told_after (Ok outcome) mid) t0 t1 script (Ok outcome) (λ contents left. answer words contents left)
      → FollowsWith {X = Outcome E} (finding_of sight) old mid t0 t1 script (Ok (Reply reply)) (λ contents left. answer words contents left)
  reply-follows reply is follows =
      subst (λ (o : Outcome E). FollowsWith {X = Outcome E} (finding_of sight) old (told_after (Ok o) mid) t0 t1 script (Ok o) (λ contents left. answer words contents left)) is follows

  pub ready-follows : (ready : ReadyImage E) → outcome ≡ Ready ready
      → FollowsWith {X = Outcome E} (finding_of sight) old (told_after (Ok outcome) mid) t0 t1 script (Ok outcome) (λ contents left. answer words contents left)
      → FollowsWith {X = Outcome E} (finding_of sight) old (told_after (Ok (Ready ready)) mid) t0 t1 script (Ok (Ready ready)) (λ contents left. answer words contents left)
  ready-follows ready is follows =
      subst (λ (o : Outcome E). FollowsWith {X = Outcome E} (finding_of sight) old (told_after (Ok o) mid) t0 t1 script (Ok o) (λ contents left. answer words contents left)) is follows

-- a rebuild that is carried to its end
module _ {E : Type 0} (sight : E → Sight) (words : List (List ℕ)) (mid new : Option Told) (t0 t1 t2 : Totals) (script : Option (List ℕ)) (ready : ReadyImage E) (status : ℕ)
    (out_old out_new report_old report_new : Option Held) (report_failed read_failed sink_failed : Type 0)
    (back : new ≡ option_map (told_returning (eyes_held ready)) mid)
    (is : (status ≡ 0) ⊎ ((status ≡ 9) ⊎ (status ≡ 10)))
    (grew : status ≡ 0 → GrewWithin t1 t2 (least_reads (parts_of_order ready.order)) (most_reads (parts_of_order ready.order)))
    (written : status ≡ 0 → IfSome (image_told sight ready) (λ bytes. WritesAll (parts_of_order ready.order) bytes out_old out_new report_old report_new))
    (cut : status ≡ 10 → IfSome (image_told sight ready) (λ bytes. WritesFront (parts_of_order ready.order) bytes out_old out_new report_old report_new report_failed))
    (read : status ≡ 9 → read_failed) (failed : status ≡ 10 → sink_failed) where
  abbrev found : Finding
  found = rebuilding (parts_of_order ready.order) (image_told sight ready)

  module _ (told : Told)
      (follows : FollowsWith {X = Outcome E} (finding_of sight) (Some told) (told_after (Ok (Ready ready)) mid) t0 t1 script (Ok (Ready ready)) (λ contents left. answer words contents left)) where
    gave : (answer words told.contents follows.left).result ≡ Ok found
    gave = (follows.reads told refl).gives

    seen : (bytes : List ℕ) × (image_told sight ready ≡ Some bytes)
    seen = words-told words told.contents follows.left (parts_of_order ready.order) (image_told sight ready) gave

    all-written : status ≡ 0 → (output : Output) × MayWrite found output × Wrote (ran_of status out_old out_new report_old report_new t0 t2) output.out output.report
    all-written zero =
        let w = subst (λ o. IfSome o (λ bytes. WritesAll (parts_of_order ready.order) bytes out_old out_new report_old report_new)) seen.1 (written zero) in
        (w.output, subst (λ o. IfSome o (λ bytes. IsOutput (parts_of_order ready.order) bytes w.output)) (sym seen.1) w.is, (w.out, w.report))

    front-written : status ≡ 10 → (output : Output) × MayWrite found output × TakesFront out_old out_new output.out
        × Reports 10 (Ok output) out_old out_new report_old report_new report_failed
    front-written ten =
        let w = subst (λ o. IfSome o (λ bytes. WritesFront (parts_of_order ready.order) bytes out_old out_new report_old report_new report_failed)) seen.1 (cut ten) in
        (w.output, subst (λ o. IfSome o (λ bytes. IsOutput (parts_of_order ready.order) bytes w.output)) (sym seen.1) w.is, w.out, w.report)

    carried-answers : Answers words told new follows.left report_failed (read_failed ⊎ sink_failed)
        (ran_of status out_old out_new report_old report_new t0 t2)
    carried-answers =
        answers-ok words told new follows.left found status out_old out_new report_old report_new t0 t2
        report_failed read_failed sink_failed gave
        (λ zero. words-took words told.contents follows.left found t0 t1 t2 gave (follows.grows told refl) (grew zero)) is
        all-written front-written read failed
        (subst (λ n. AsksFront told n (words_eyes told.contents follows.left (request_of words))) (sym back)
        (asked-words words told (told_after (Ok (Ready ready)) mid) follows.left (follows.reads told refl).front))

  pub run-ready : (old : Option Told)
      → FollowsWith {X = Outcome E} (finding_of sight) old (told_after (Ok (Ready ready)) mid) t0 t1 script (Ok (Ready ready)) (λ contents left. answer words contents left)
      → IfSome old (λ told. (left : List ℕ) × IsLeft script left
      × Answers words told new left report_failed (read_failed ⊎ sink_failed)
      (ran_of status out_old out_new report_old report_new t0 t2))
  run-ready None follows = tt
  run-ready (Some told) follows = (follows.left, follows.is, carried-answers told follows)

pub line-ready : (status : ℕ) (report_old report_new : Option Held) (failed : Type 0)
    → (status ≡ 0) ⊎ ((status ≡ 9) ⊎ (status ≡ 10)) → (status ≡ 9 → HasLine report_old report_new failed (fault_line ReadFault))
    → (status ≡ 10 → IsReported 10 report_old report_new failed)
    → status ≢ 0 → IsReported status report_old report_new failed
line-ready status report_old report_new failed (inl zero) line reported other = absurd (other zero)
line-ready status report_old report_new failed (inr (inl nine)) line reported other = inl (ReadFault, sym nine, line nine)
line-ready status report_old report_new failed (inr (inr ten)) line reported other = subst (λ s. IsReported s report_old report_new failed) (sym ten) (reported ten)

-- ---- where the files tell

-- what holds of all that they tell
pub where-told : (told : Option Told) (P : Told → Type 0) → ForSome told P → IfSome told P
where-told None P h = tt
where-told (Some told) P h = h told refl
