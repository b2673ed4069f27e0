use Rattle.std.proofs.Common.{sym, subst}
use Rattle.mr_io.specs.Counts.{Rose}
use Rattle.mr_steps.specs.Sinks.{HasLine}
use Rattle.mr_scatter_run.specs.Tasks.{end_text, stripes_line}
use Rattle.mr_scatter_run.proofs.ReportLaws.{line-after, line-cut}
use Rattle.mr_scatter_run.proofs.lines.report_end.Goals as goal

pub returns-in-Ok-clause-line : goal.returns-in-Ok-clause-line
returns-in-Ok-clause-line g c =
    subst (λ o. HasLine (g.R.Sink.held c.args.report.now) (g.R.Sink.held c.refuse.new.report) (Rose (g.R.Sink.faults c.args.report.now) (g.R.Sink.faults c.refuse.new.report)) (end_text o c.args.end.fault)) (sym c.in-Some.is)
    (line-after _ _ _ _ _ _ (stripes_line c.in-Some.stripes) _ c.in-Ok.ensures.puts.ok c.in-Ok.ensures.cause.quiet c.refuse.ensures.line)

pub returns-in-Err-clause-line : goal.returns-in-Err-clause-line
returns-in-Err-clause-line g c =
    subst (λ o. HasLine (g.R.Sink.held c.args.report.now) (g.R.Sink.held c.put_stripes.new.report) (Rose (g.R.Sink.faults c.args.report.now) (g.R.Sink.faults c.put_stripes.new.report)) (end_text o c.args.end.fault)) (sym c.in-Some.is)
    (line-cut _ _ _ _ (stripes_line c.in-Some.stripes) _ c.in-Err.ensures.puts.err c.in-Err.ensures.cause.failed)
