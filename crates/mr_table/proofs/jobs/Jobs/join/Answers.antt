use Rattle.mr_table.proofs.Keeps.{merges}
use Rattle.mr_table.proofs.jobs.Jobs.join.Goals as goal

pub absorb-requires-clause-rule : goal.absorb-requires-clause-rule
absorb-requires-clause-rule g c = merges _ _ _ _ c.args.pass.now.live
