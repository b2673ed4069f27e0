use Rattle.mr_steps.proofs.Sinks.{has_line}
use Rattle.mr_steps.proofs.refusing.refuse.Goals as goal

pub returns-clause-line : goal.returns-clause-line
returns-clause-line g c = has_line c.print.result c.print.ensures.puts c.print.ensures.cause
