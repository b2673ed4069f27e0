use Rattle.mr_io.proofs.Taking.{puts_then}
use Rattle.mr_account.proofs.endings.Ending.print_report.Goals as goal

pub returns-clause-puts : goal.returns-clause-puts
returns-clause-puts g c = puts_then _ _ _ _ _ _ c.in_ok-print_asks.ensures.puts.ok c.print_histories.ensures.puts
