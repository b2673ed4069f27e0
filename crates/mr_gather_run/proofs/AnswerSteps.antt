-- The devices after the task, as the steps of one answer.
use Rattle.std.proofs.Common.{◌≡◌, ◌⊎◌, inl, inr, ℕ, List, Option, Some, Result, Ok, Err, refl, ◌∙◌, ap, subst}
use Rattle.std.specs.Option.{ForSome}
use Rattle.std.proofs.lemmas.Bool.{false≢true}
use Rattle.mr_array_words.specs.Gather.{GatherAsked}
use Rattle.mr_gather.specs.declared.stripes.Gathering.{Gathering}
use Rattle.mr_io.specs.Taking.{Held, Takes}
use Rattle.mr_io.specs.Telling.{Told, told_asking}
use Rattle.mr_io.specs.declared.totals.Totals.{Totals}
use Rattle.mr_steps.specs.Readings.{and_then}
use Rattle.mr_steps.specs.Refusals.{Gave}
use Rattle.mr_steps.specs.Sinks.{TakesFront}
use Rattle.mr_steps.specs.Steps.{Grows, Reads}
use Rattle.mr_steps.specs.declared.fault.Fault.{Fault}
use Rattle.mr_steps.proofs.Chains.{reads_err, reads_then}
use Rattle.mr_steps.proofs.Growing.{grows_then}
use Rattle.mr_gather_run.specs.Tasks.{Task, devices_read, gather_answer, gathered_file, task_in, task_of}

module _ (asked : GatherAsked) where
  pub at-task : (old new : Option Told) (fault : Fault) → Reads {X = Gathering} task_in old new (Err fault) (λ contents. task_of contents asked)
      → Reads {X = Gathering} task_in old new (Err fault) (λ contents. gather_answer contents asked)
  unfolding gather_answer
  at-task old new fault h = reads_err task_in task_in old new fault (λ contents. task_of contents asked) (λ contents task. devices_read contents asked.devices task) h

  -- the result of the answer, behind the task
  answer-is : (contents : List ℕ → List ℕ) (task : Task) (result : Result Task Fault) → (task_of contents asked).result ≡ Ok task
      → (devices_read contents asked.devices task).result ≡ result → (gather_answer contents asked).result ≡ result
  unfolding gather_answer
  answer-is contents task result e h =
      ap (λ r. (and_then (task_of contents asked).eyes (task_of contents asked).taken r (λ task. devices_read contents asked.devices task)).result) e ∙ h

  module _ (old between new : Option Told) (task : Gathering) (devices : List (Option (List ℕ))) (same : devices ≡ asked.devices)
      (reads : Reads task_in old between (Ok task) (λ contents. task_of contents asked)) where
    past-task : (result : Result Gathering Fault) → Reads task_in between new result (λ contents. devices_read contents asked.devices (task_in task))
        → Reads task_in old new result (λ contents. gather_answer contents asked)
    unfolding gather_answer
    past-task result h = reads_then task_in task_in old between new task result (λ contents. task_of contents asked)
        (λ contents task. devices_read contents asked.devices task) reads h

    pub at-devices : (fault : Fault) → Reads {X = Unit {0}} (λ _. task_in task) between new (Err fault) (λ contents. devices_read contents devices (task_in task))
        → Reads {X = Gathering} task_in old new (Err fault) (λ contents. gather_answer contents asked)
    at-devices fault h = past-task (Err fault) (λ told there.
        let f = subst (λ ds. Reads {X = Unit {0}} (λ _. task_in task) between new (Err fault) (λ contents. devices_read contents ds (task_in task))) same h told there in
        record { gives = f.gives; front = f.front; whole = λ ok. absurd (false≢true ok) })

    pub past-devices : (done : Unit {0}) → Reads {X = Unit {0}} (λ _. task_in task) between new (Ok done) (λ contents. devices_read contents devices (task_in task))
        → Reads task_in old new (Ok task) (λ contents. gather_answer contents asked)
    past-devices done h = past-task (Ok task) (λ told there.
        let f = subst (λ ds. Reads {X = Unit {0}} (λ _. task_in task) between new (Ok done) (λ contents. devices_read contents ds (task_in task))) same h told there in
        record { gives = f.gives; front = f.front; whole = f.whole })

    pub devices-grow : (t0 t1 t2 : Totals) (done : Unit {0}) → Grows {X = Gathering} old t0 t1 (Ok task) (λ contents. task_of contents asked)
        → Grows {X = Unit {0}} between t1 t2 (Ok done) (λ contents. devices_read contents devices (task_in task))
        → Grows {X = Gathering} old t0 t2 (Ok task) (λ contents. gather_answer contents asked)
    unfolding gather_answer
    devices-grow t0 t1 t2 done first h = grows_then task_in old between t0 t1 t2 task (Ok task) (λ contents. task_of contents asked)
        (λ contents task. devices_read contents asked.devices task) reads first
        (subst (λ ds. Grows {X = Unit {0}} between t1 t2 (Ok done) (λ contents. devices_read contents ds (task_in task))) same h)

    -- the files hold what they held
    told-between : (told : Told) → old ≡ Some told → between ≡ Some (told_asking (task_of told.contents asked).eyes told)
    told-between told there = (reads told there).whole refl

    pub put-at : (out0 out1 : Option Held) → ForSome between (λ told. Takes out0 out1 (gathered_file told.contents devices (task_in task)))
        → ForSome old (λ told. Takes out0 out1 (gathered_file told.contents asked.devices (task_in task)))
    put-at out0 out1 h told there =
        subst (λ ds. Takes out0 out1 (gathered_file told.contents ds (task_in task))) same (h (told_asking (task_of told.contents asked).eyes told) (told-between told there))

    pub cut-at : {O : Type 0} (o0 o1 : O) (out0 out1 : Option Held)
        → (o1 ≡ o0) ⊎ ForSome between (λ told. ((devices_read told.contents devices (task_in task)).result ≡ Ok (task_in task))
        × TakesFront out0 out1 (gathered_file told.contents devices (task_in task)))
        → (o1 ≡ o0) ⊎ ForSome old (λ told. Gave (gather_answer told.contents asked).result (λ task. TakesFront out0 out1 (gathered_file told.contents asked.devices task)))
    cut-at o0 o1 out0 out1 (inl e) = inl e
    cut-at o0 o1 out0 out1 (inr h) = inr (λ told there.
        let part = h (told_asking (task_of told.contents asked).eyes told) (told-between told there) in
        record {
          value = task_in task;
          is = answer-is told.contents (task_in task) (Ok (task_in task)) ((reads told there).gives)
              (subst (λ ds. (devices_read told.contents ds (task_in task)).result ≡ Ok (task_in task)) same part.0);
          holds = subst (λ ds. TakesFront out0 out1 (gathered_file told.contents ds (task_in task))) same part.1;
        })
