use Rattle.mr_table.proofs.Keeps.{forks}
use Rattle.mr_table.proofs.jobs.Jobs.split.Goals as goal

pub another-seat-requires-clause-rule : goal.another-seat-requires-clause-rule
another-seat-requires-clause-rule g c = forks _ _ c.args.pass.now.live c.requires.left
