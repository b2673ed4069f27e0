-- The steps before a device is opened, each with what comes after it.
use Rattle.std.proofs.Common.{◌≡◌, ℕ, List, Option, Result, Ok, Err, ap, sym}
use Rattle.mr_image.specs.Images.{Layout}
use Rattle.mr_io.specs.Telling.{Told}
use Rattle.mr_io.specs.declared.totals.Totals.{Totals}
use Rattle.mr_model.specs.Code.{Code}
use Rattle.mr_array_words.specs.Gather.{GatherAsked}
use Rattle.mr_gather.specs.declared.stripes.Gathering.{Gathering}
use Rattle.mr_steps.specs.Readings.{Reading, given, ◌>>=◌}
use Rattle.mr_steps.specs.Steps.{Gives, Grows, Reads}
use Rattle.mr_steps.specs.declared.fault.Fault.{Fault}
use Rattle.mr_steps.proofs.Chains.{reads_err, reads_given, reads_then}
use Rattle.mr_steps.proofs.Growing.{grows_given, grows_then}
use Rattle.mr_gather_run.specs.Tasks.{Task, layout_given, lost_given, set_read, task_for, task_in}

-- what comes after the set, after the lost symbols, and after the layout
abbrev task-as : GatherAsked → Layout → ℕ → Task
task-as asked l set = record { layout = l; set = set; first = asked.first }

abbrev set-next : GatherAsked → Layout → ℕ → Reading Task
set-next asked l set = given (Ok (task-as asked l set))

abbrev lost-next : (List ℕ → List ℕ) → GatherAsked → Code → Layout → ℕ → Reading Task
lost-next contents asked m l lost = set_read contents asked.plan m lost >>= set-next asked l

abbrev layout-next : (List ℕ → List ℕ) → GatherAsked → Code → Layout → Reading Task
layout-next contents asked m l = given (lost_given m asked.devices) >>= lost-next contents asked m l

module _ (asked : GatherAsked) (m : Code) where
  pub at-layout : (old : Option Told) (fault : Fault) → Gives {X = Layout} (λ l. l) (Err fault) (layout_given m asked)
      → Reads {X = Gathering} task_in old old (Err fault) (λ contents. task_for contents asked m)
  unfolding task_for
  at-layout old fault h = reads_err (λ (l : Layout). l) task_in old old fault (λ _. given (layout_given m asked)) (λ contents. layout-next contents asked m)
      (reads_given (λ (l : Layout). l) old (Err fault) (layout_given m asked) h)

  past-layout : (old new : Option Told) (l : Layout) (result : Result Gathering Fault) → Gives {X = Layout} (λ l. l) (Ok l) (layout_given m asked)
      → Reads task_in old new result (λ contents. layout-next contents asked m l)
      → Reads task_in old new result (λ contents. task_for contents asked m)
  unfolding task_for
  past-layout old new l result h rest = reads_then (λ (l : Layout). l) task_in old old new l result (λ _. given (layout_given m asked))
      (λ contents. layout-next contents asked m) (reads_given (λ (l : Layout). l) old (Ok l) (layout_given m asked) h) rest

  module _ (l : Layout) (layout : Gives {X = Layout} (λ l. l) (Ok l) (layout_given m asked)) where
    pub at-lost : (old : Option Told) (fault : Fault) → Gives {X = ℕ} (λ lost. lost) (Err fault) (lost_given m asked.devices)
        → Reads {X = Gathering} task_in old old (Err fault) (λ contents. task_for contents asked m)
    at-lost old fault h = past-layout old old l (Err fault) layout
        (reads_err (λ (lost : ℕ). lost) task_in old old fault (λ _. given (lost_given m asked.devices)) (λ contents. lost-next contents asked m l)
        (reads_given (λ (lost : ℕ). lost) old (Err fault) (lost_given m asked.devices) h))

    module _ (lost : ℕ) (loses : Gives {X = ℕ} (λ lost. lost) (Ok lost) (lost_given m asked.devices)) where
      past-lost : (old new : Option Told) (result : Result Gathering Fault)
          → Reads task_in old new result (λ contents. lost-next contents asked m l lost)
          → Reads task_in old new result (λ contents. task_for contents asked m)
      past-lost old new result rest = past-layout old new l result layout
          (reads_then (λ (lost : ℕ). lost) task_in old old new lost result (λ _. given (lost_given m asked.devices)) (λ contents. lost-next contents asked m l)
          (reads_given (λ (lost : ℕ). lost) old (Ok lost) (lost_given m asked.devices) loses) rest)

      pub at-set : (old new : Option Told) (fault : Fault) → Reads {X = ℕ} (λ set. set) old new (Err fault) (λ contents. set_read contents asked.plan m lost)
          → Reads {X = Gathering} task_in old new (Err fault) (λ contents. task_for contents asked m)
      at-set old new fault h = past-lost old new (Err fault)
          (reads_err (λ (set : ℕ). set) task_in old new fault (λ contents. set_read contents asked.plan m lost) (λ _. set-next asked l) h)

      module _ (old new : Option Told) (set : ℕ) (task : Gathering) (is : task_in task ≡ task-as asked l set)
          (reads : Reads {X = ℕ} (λ set. set) old new (Ok set) (λ contents. set_read contents asked.plan m lost)) where
        last : Gives {X = Gathering} task_in (Ok task) (Ok (task-as asked l set))
        last = ap (λ (t : Task). Ok t) (sym is)

        pub task-reads : Reads task_in old new (Ok task) (λ contents. task_for contents asked m)
        task-reads = past-lost old new (Ok task)
            (reads_then (λ (set : ℕ). set) task_in old new new set (Ok task) (λ contents. set_read contents asked.plan m lost) (λ _. set-next asked l) reads
            (reads_given task_in new (Ok task) (Ok (task-as asked l set)) last))

        pub task-grows : (t0 t1 : Totals) → Grows {X = ℕ} old t0 t1 (Ok set) (λ contents. set_read contents asked.plan m lost)
            → Grows {X = Gathering} old t0 t1 (Ok task) (λ contents. task_for contents asked m)
        unfolding task_for
        task-grows t0 t1 grows = grows_then (λ (l : Layout). l) old old t0 t0 t1 l (Ok task) (λ _. given (layout_given m asked)) (λ contents. layout-next contents asked m)
            (reads_given (λ (l : Layout). l) old (Ok l) (layout_given m asked) layout) (grows_given {X = Layout} old t0 (Ok l) (layout_given m asked))
            (grows_then (λ (lost : ℕ). lost) old old t0 t0 t1 lost (Ok task) (λ _. given (lost_given m asked.devices)) (λ contents. lost-next contents asked m l)
            (reads_given (λ (lost : ℕ). lost) old (Ok lost) (lost_given m asked.devices) loses) (grows_given {X = ℕ} old t0 (Ok lost) (lost_given m asked.devices))
            (grows_then (λ (set : ℕ). set) old new t0 t1 t1 set (Ok task) (λ contents. set_read contents asked.plan m lost) (λ _. set-next asked l) reads grows
            (grows_given new t1 (Ok task) (Ok (task-as asked l set)))))
