use Rattle.std.proofs.lemmas.Result.{err_from_is_err_and}
use Rattle.mr_array_words.specs.Gather.{gather_asked}
use Rattle.mr_gather_run.proofs.AnswerSteps.{at-devices, at-task, cut-at, devices-grow, past-devices, put-at}
use Rattle.mr_gather_run.proofs.top.gather.Goals as goal

pub returns-in_err-task-clause-reads : goal.returns-in_err-task-clause-reads
returns-in_err-task-clause-reads g c =
    let p = err_from_is_err_and c.from_residual.result c.from_residual.ensures.1 in
    rw (p.1, p.2) (at-task (gather_asked c.args.words.now) _ _ _ c.in_err-task.ensures.reads)

pub returns-in_err-gather_devices-clause-reads : goal.returns-in_err-gather_devices-clause-reads
returns-in_err-gather_devices-clause-reads g c =
    let p = err_from_is_err_and c.from_residual-in_err-gather_devices.result c.from_residual-in_err-gather_devices.ensures.1 in
    rw (p.1, p.2) (at-devices (gather_asked c.args.words.now) _ _ _ c.in_ok-task.task c.deref.result.now c.deref.ensures.value c.in_ok-task.ensures.reads _
    c.in_err-gather_devices.ensures.reads)

pub returns-in_err-gather_devices-clause-cut : goal.returns-in_err-gather_devices-clause-cut
returns-in_err-gather_devices-clause-cut g c =
    let p = err_from_is_err_and c.from_residual-in_err-gather_devices.result c.from_residual-in_err-gather_devices.ensures.1 in
    rw p.1
    (cut-at (gather_asked c.args.words.now) _ _ (g.F.Files.told c.gather_devices.new.files) c.in_ok-task.task c.deref.result.now c.deref.ensures.value c.in_ok-task.ensures.reads _ _ _ _
    c.in_err-gather_devices.ensures.cut)

pub returns-clause-reads : goal.returns-clause-reads
returns-clause-reads g c =
    past-devices (gather_asked c.args.words.now) _ _ _ c.in_ok-task.task c.deref.result.now c.deref.ensures.value c.in_ok-task.ensures.reads _
    c.in_ok-gather_devices.ensures.reads

pub returns-clause-totals : goal.returns-clause-totals
returns-clause-totals g c =
    devices-grow (gather_asked c.args.words.now) _ _ (g.F.Files.told c.gather_devices.new.files) c.in_ok-task.task c.deref.result.now c.deref.ensures.value c.in_ok-task.ensures.reads _ _ _ _
    c.in_ok-task.ensures.totals c.in_ok-gather_devices.ensures.totals

pub returns-clause-put : goal.returns-clause-put
returns-clause-put g c =
    put-at (gather_asked c.args.words.now) _ _ (g.F.Files.told c.gather_devices.new.files) c.in_ok-task.task c.deref.result.now c.deref.ensures.value c.in_ok-task.ensures.reads _ _
    c.in_ok-gather_devices.ensures.put
