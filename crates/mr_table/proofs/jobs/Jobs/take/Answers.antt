use Rattle.mr_table.proofs.Keeps.{pops, learns, takes-some, takes-none, takes-each}
use Rattle.mr_table.proofs.jobs.Jobs.take.Goals as goal

pub pop_as-requires-clause-rule : goal.pop_as-requires-clause-rule
pop_as-requires-clause-rule g c = let p = c.args.pass.now in (pops _ _ p.live, learns _ _ p.live)

pub returns-clause-some : goal.returns-clause-some
returns-clause-some g c = takes-some _ _ _ _ c.pop_as.ensures.rule

pub returns-clause-none : goal.returns-clause-none
returns-clause-none g c = takes-none _ _ _ _ c.pop_as.ensures.rule

pub returns-clause-each : goal.returns-clause-each
returns-clause-each g c = takes-each _ _ _ _ _ c.requires.pushed c.pop_as.ensures.rule
