use Rattle.mr_table.proofs.Views.{live}
use Rattle.mr_table.proofs.laws.passes_know_the_jobs.Goals as goal

pub returns : goal.returns
returns c pushed items views k id v at part = (live pushed v part (k.each_fits id v at)).knows_jobs
