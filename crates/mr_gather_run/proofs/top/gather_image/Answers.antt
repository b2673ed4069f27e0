use Rattle.mr_array_words.specs.Gather.{gather_asked}
use Rattle.mr_gather_run.proofs.RunAnswers.{run-cut, run-err}
use Rattle.mr_gather_run.proofs.top.gather_image.Goals as goal

pub returns-in-Err-put_line-clause-answers : goal.returns-in-Err-put_line-clause-answers
returns-in-Err-put_line-clause-answers g c =
    run-cut (gather_asked c.args.words.now) _ _ c.in-Ok.task _ _ _ _ _ _ _ _ _ _ c.in-Ok.ensures.reads c.in-Ok.ensures.put c.status.ensures c.in-Err-put_line.ensures.cause.failed

pub returns-in-Err-clause-answers : goal.returns-in-Err-clause-answers
returns-in-Err-clause-answers g c =
    run-err g.O.Sink.held (gather_asked c.args.words.now) _ _ c.in-Err.fault _ _ _ _ _ _ _ _ _ _ _ _ c.in-Err.ensures.reads c.in-Err.ensures.cause
    c.refuse.ensures.status c.refuse.ensures.line c.in-Err.ensures.cut
