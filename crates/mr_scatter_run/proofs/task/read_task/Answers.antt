use Rattle.std.proofs.lemmas.Result.{err_from_is_err_and}
use Rattle.mr_array_words.specs.Scatter.{scatter_asked}
use Rattle.mr_steps.specs.Readings.{given}
use Rattle.mr_steps.specs.TextFiles.{matrix_file}
use Rattle.mr_steps.proofs.Chains.{reads_err, reads_given, reads_then}
use Rattle.mr_scatter_run.specs.Tasks.{task_for, task_in, task_of}
use Rattle.mr_scatter_run.proofs.HeadLaws.{on-ok}
use Rattle.mr_scatter_run.proofs.task.read_task.Goals as goal

pub returns-in_err-matrix-clause-reads : goal.returns-in_err-matrix-clause-reads
unfolding task_of
returns-in_err-matrix-clause-reads g c =
    let p = err_from_is_err_and c.from_residual.result c.from_residual.ensures.1 in
    rw (p.1, p.2) (λ left there. reads_err (λ m. m) task_in _ _ _ (λ contents. matrix_file contents c.args.words.now.matrix) (λ contents m. given (task_for left (scatter_asked c.args.words.now) m)) c.in_err-matrix.ensures.reads)

pub returns-clause-reads : goal.returns-clause-reads
unfolding task_of
returns-clause-reads g c left there =
    reads_then (λ m. m) task_in _ _ _ c.in_ok-matrix.matrix _ (λ contents. matrix_file contents c.args.words.now.matrix) (λ contents m. given (task_for left (scatter_asked c.args.words.now) m)) c.in_ok-matrix.ensures.reads
    (reads_given task_in _ _ _ (c.read_task_of.ensures.given left there))

pub returns-in_err-matrix-clause-asks : goal.returns-in_err-matrix-clause-asks
returns-in_err-matrix-clause-asks g c told there = (c.in_err-matrix.ensures.reads told there).front

pub returns-clause-asks : goal.returns-clause-asks
returns-clause-asks g c told there = (c.in_ok-matrix.ensures.reads told there).front

pub returns-clause-totals : goal.returns-clause-totals
returns-clause-totals g c = on-ok c.read_task_of.result c.in_ok-matrix.ensures.totals
