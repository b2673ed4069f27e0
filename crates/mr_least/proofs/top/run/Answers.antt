use Rattle.mr_least.specs.Answer.{output_of}
use Rattle.mr_steps.proofs.FaultCases.{line-ok}
use Rattle.mr_least.proofs.RunAnswers.{run-err, run-ok}
use Rattle.mr_least.proofs.top.run.Goals as goal

pub returns-in-Ok-clause-answers : goal.returns-in-Ok-clause-answers
returns-in-Ok-clause-answers g c = run-ok _ _ _ _ _ c.in-Ok.chosen _ _ _ _ _ _ _ _ c.in-Ok.ensures.reads c.in-Ok.ensures.totals
    c.write_plan.ensures.status c.write_plan.ensures.written c.write_plan.ensures.cut c.write_plan.ensures.reported c.write_plan.ensures.cause

pub returns-in-Err-clause-answers : goal.returns-in-Err-clause-answers
returns-in-Err-clause-answers g c = run-err _ _ _ _ _ c.in-Err.fault _ _ _ _ _ _ _ _ _ c.in-Err.ensures.reads c.in-Err.ensures.cause
    c.refuse.ensures.status c.refuse.ensures.line

pub returns-in-Ok-clause-line : goal.returns-in-Ok-clause-line
returns-in-Ok-clause-line g c = line-ok (output_of c.in-Ok.chosen) _ _ _ _ _ _ c.write_plan.ensures.status c.write_plan.ensures.reported
