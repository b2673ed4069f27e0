use Rattle.std.proofs.Common.{◌∙◌, ℕ, Err, Ok, ap, length, refl, subst, sym}
use Rattle.std.proofs.lemmas.Result.{err_from_is_err_and}
use Rattle.mr_array_words.specs.Gather.{gather_asked}
use Rattle.mr_losses.specs.Losses.{symbols_of_devices}
use Rattle.mr_steps.specs.Steps.{Gives}
use Rattle.mr_gather_run.specs.Tasks.{lost_devices, lost_given}
use Rattle.mr_gather_run.proofs.Losses.{Survives, can-gather}
use Rattle.mr_gather_run.proofs.TaskSteps.{at-layout, at-lost, at-set, task-grows, task-reads}
use Rattle.mr_gather_run.proofs.task.task_with.Goals as goal

pub returns-in_err-head-clause-reads : goal.returns-in_err-head-clause-reads
returns-in_err-head-clause-reads g c =
    let p = err_from_is_err_and c.from_residual.result c.from_residual.ensures.1 in
    rw (p.1, p.2) (at-layout (gather_asked c.args.words.now) c.args.matrix.now _ _ c.in_err-head.ensures.given)

pub returns-in_err-lost-clause-reads : goal.returns-in_err-lost-clause-reads
returns-in_err-lost-clause-reads g c =
    let p = err_from_is_err_and c.from_residual-in_err-lost.result c.from_residual-in_err-lost.ensures.1 in
    rw (p.1, p.2) (at-lost (gather_asked c.args.words.now) c.args.matrix.now c.in_ok-head.head c.in_ok-head.ensures.given _ _ (subst (λ devices. Gives {X = ℕ} (λ lost. lost) (Err c.in_err-lost.field-0.0) (lost_given c.args.matrix.now devices)) c.deref.ensures.value c.in_err-lost.ensures.given))

pub returns-in_err-set-clause-reads : goal.returns-in_err-set-clause-reads
returns-in_err-set-clause-reads g c =
    let p = err_from_is_err_and c.from_residual-in_err-set.result c.from_residual-in_err-set.ensures.1 in
    rw (p.1, p.2) (at-set (gather_asked c.args.words.now) c.args.matrix.now c.in_ok-head.head c.in_ok-head.ensures.given
    c.in_ok-lost.lost (subst (λ devices. Gives {X = ℕ} (λ lost. lost) (Ok c.in_ok-lost.lost) (lost_given c.args.matrix.now devices)) c.deref.ensures.value c.in_ok-lost.ensures.given) _ _ _ c.in_err-set.ensures.reads)

pub returns-clause-reads : goal.returns-clause-reads
returns-clause-reads g c = task-reads (gather_asked c.args.words.now) c.args.matrix.now c.in_ok-head.head c.in_ok-head.ensures.given
    c.in_ok-lost.lost (subst (λ devices. Gives {X = ℕ} (λ lost. lost) (Ok c.in_ok-lost.lost) (lost_given c.args.matrix.now devices)) c.deref.ensures.value c.in_ok-lost.ensures.given) _ _ c.in_ok-set.set (record { head = c.in_ok-head.head; set = c.in_ok-set.set; first = c.args.words.now.first }) refl
    c.in_ok-set.ensures.reads

pub returns-clause-totals : goal.returns-clause-totals
returns-clause-totals g c = task-grows (gather_asked c.args.words.now) c.args.matrix.now c.in_ok-head.head c.in_ok-head.ensures.given
    c.in_ok-lost.lost (subst (λ devices. Gives {X = ℕ} (λ lost. lost) (Ok c.in_ok-lost.lost) (lost_given c.args.matrix.now devices)) c.deref.ensures.value c.in_ok-lost.ensures.given) _ _ c.in_ok-set.set (record { head = c.in_ok-head.head; set = c.in_ok-set.set; first = c.args.words.now.first }) refl
    c.in_ok-set.ensures.reads _ _ c.in_ok-set.ensures.totals

pub returns-clause-fits : goal.returns-clause-fits
returns-clause-fits g c = can-gather c.args.matrix.now c.args.words.now.devices.items c.requires.code (ap length (sym c.deref.ensures.value) ∙ c.in_ok-lost.ensures.count) c.in_ok-head.head c.in_ok-set.set c.args.words.now.first
    c.in_ok-head.ensures.devices c.in_ok-head.ensures.symbols (subst (λ lost. Survives c.args.matrix.now lost c.in_ok-set.set) (c.in_ok-lost.ensures.lost ∙ ap (λ devices. symbols_of_devices c.args.matrix.now (lost_devices devices)) c.deref.ensures.value) c.in_ok-set.ensures.survive)
