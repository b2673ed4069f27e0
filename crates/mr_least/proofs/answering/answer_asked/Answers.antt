use Rattle.std.proofs.lemmas.Result.{err_from_is_err_and}
use Rattle.mr_steps.specs.TextFiles.{matrix_file}
use Rattle.mr_least.specs.Answer.{least_answer, least_given, output_of}
use Rattle.mr_steps.specs.Readings.{given}
use Rattle.mr_steps.proofs.Chains.{reads_err, reads_given, reads_then}
use Rattle.mr_steps.proofs.Growing.{grows_given, grows_then}
use Rattle.mr_least.proofs.answering.answer_asked.Goals as goal

pub returns-in_err-matrix-clause-reads : goal.returns-in_err-matrix-clause-reads
unfolding least_answer
returns-in_err-matrix-clause-reads g c =
    let p = err_from_is_err_and c.from_residual.result c.from_residual.ensures.1 in
    rw (p.1, p.2) (reads_err (λ m. m) output_of _ _ _
    (λ contents. matrix_file contents c.args.asked.now.matrix) (λ contents m. given (least_given c.args.asked.now.budget m c.args.asked.now.lost)) c.in_err-matrix.ensures.reads)

pub returns-clause-reads : goal.returns-clause-reads
unfolding least_answer
returns-clause-reads g c = reads_then (λ m. m) output_of _ _ _ c.in_ok-matrix.matrix _
    (λ contents. matrix_file contents c.args.asked.now.matrix) (λ contents m. given (least_given c.args.asked.now.budget m c.args.asked.now.lost)) c.in_ok-matrix.ensures.reads
    (reads_given output_of _ _ _ c.plan_of.ensures.given)

pub returns-clause-totals : goal.returns-clause-totals
unfolding least_answer
returns-clause-totals g c = grows_then (λ m. m) _ _ _ _ _ c.in_ok-matrix.matrix _
    (λ contents. matrix_file contents c.args.asked.now.matrix) (λ contents m. given (least_given c.args.asked.now.budget m c.args.asked.now.lost))
    c.in_ok-matrix.ensures.reads c.in_ok-matrix.ensures.totals
    (grows_given _ _ _ (least_given c.args.asked.now.budget c.in_ok-matrix.matrix c.args.asked.now.lost))
