use Rattle.mr_array_words.specs.Scatter.{scatter_asked}
use Rattle.mr_steps.proofs.Sinks.{front_part}
use Rattle.mr_scatter_run.specs.Tasks.{task_in}
use Rattle.mr_scatter_run.proofs.RunAnswers.{answers-cut, answers-err, answers-ok}
use Rattle.mr_scatter_run.proofs.top.scatter_image.Goals as goal

pub returns-in-Ok-put_line-clause-answers : goal.returns-in-Ok-put_line-clause-answers
returns-in-Ok-put_line-clause-answers g c told there left is shelf has =
    answers-ok told.contents left (scatter_asked c.args.words.now) shelf _ _ _ _ _ _ task_in c.in-Ok.ready (c.in-Ok.ensures.scatters told there left is shelf has) c.in-Ok-put_line.ensures.puts.ok

pub returns-in-Ok-clause-answers : goal.returns-in-Ok-clause-answers
returns-in-Ok-clause-answers g c told there left is shelf has =
    answers-cut told.contents left (scatter_asked c.args.words.now) shelf _ _ _ _ _ _ task_in c.in-Ok.ready (c.in-Ok.ensures.scatters told there left is shelf has) c.status.result c.status.ensures
    (front_part c.in-Err-put_line.ensures.puts.err) c.in-Err-put_line.ensures.cause.failed

pub returns-clause-answers : goal.returns-clause-answers
returns-clause-answers g c told there left is shelf has =
    answers-err told.contents left (scatter_asked c.args.words.now) shelf _ _ _ _ _ _ task_in c.in-Err.end c.report_end.result (c.in-Err.ensures.scatters told there left is shelf has) c.report_end.ensures.status
    c.report_end.ensures.line c.in-Err.ensures.causes.read c.in-Err.ensures.causes.written
