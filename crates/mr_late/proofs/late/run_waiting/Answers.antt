use Rattle.std.proofs.Common.{ap, inl}
use Rattle.mr_late.proofs.RunAnswers.{line-ok, run-err, run-ok}
use Rattle.mr_late.proofs.late.run_waiting.Goals as goal

pub returns-in-Ok-clause-answers : goal.returns-in-Ok-clause-answers
returns-in-Ok-clause-answers g c = run-ok _ _ _ c.in-Ok.tabled _ _ _ _ _ _ _ _ c.in-Ok.ensures.reads
    c.write_table.ensures.status c.write_table.ensures.written (λ zero. ap g.R.Sink.held (c.write_table.ensures.quiet zero).1)
    c.write_table.ensures.cut (λ ten. inl (c.write_table.ensures.cause ten))

pub returns-in-Err-clause-answers : goal.returns-in-Err-clause-answers
returns-in-Err-clause-answers g c = run-err _ _ _ c.in-Err.fault _ _ _ _ _ _ _ _ _ c.in-Err.ensures.reads c.in-Err.ensures.cause
    c.refuse.ensures.status c.refuse.ensures.line

pub returns-in-Ok-clause-line : goal.returns-in-Ok-clause-line
returns-in-Ok-clause-line g c = line-ok _ _ _ _ c.write_table.ensures.status c.write_table.ensures.line
