use Rattle.std.proofs.lemmas.Result.{err_from_is_err_and}
use Rattle.mr_array_words.specs.Gather.{gather_asked}
use Rattle.mr_steps.specs.TextFiles.{matrix_file}
use Rattle.mr_steps.proofs.Chains.{reads_err, reads_then}
use Rattle.mr_steps.proofs.Growing.{grows_then}
use Rattle.mr_gather_run.specs.Tasks.{task_for, task_in, task_of}
use Rattle.mr_gather_run.proofs.task.read_task.Goals as goal

pub returns-in_err-matrix-clause-reads : goal.returns-in_err-matrix-clause-reads
unfolding task_of
returns-in_err-matrix-clause-reads g c =
    let p = err_from_is_err_and c.from_residual.result c.from_residual.ensures.1 in
    rw (p.1, p.2) (reads_err (λ m. m) task_in _ _ _ (λ contents. matrix_file contents c.args.words.now.matrix)
    (λ contents m. task_for contents (gather_asked c.args.words.now) m) c.in_err-matrix.ensures.reads)

pub returns-clause-reads : goal.returns-clause-reads
unfolding task_of
returns-clause-reads g c = reads_then (λ m. m) task_in _ _ _ c.in_ok-matrix.matrix c.task_with.result (λ contents. matrix_file contents c.args.words.now.matrix)
    (λ contents m. task_for contents (gather_asked c.args.words.now) m) c.in_ok-matrix.ensures.reads c.task_with.ensures.reads

pub returns-clause-totals : goal.returns-clause-totals
unfolding task_of
returns-clause-totals g c = grows_then (λ m. m) _ _ _ _ _ c.in_ok-matrix.matrix c.task_with.result (λ contents. matrix_file contents c.args.words.now.matrix)
    (λ contents m. task_for contents (gather_asked c.args.words.now) m) c.in_ok-matrix.ensures.reads c.in_ok-matrix.ensures.totals c.task_with.ensures.totals
