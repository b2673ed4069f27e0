use Rattle.mr_scatter_run.specs.Tasks.{task_in}
use Rattle.mr_scatter_run.proofs.EndLaws.{all-open, causes-unopened, ends-after, ends-unopened}
use Rattle.mr_scatter_run.proofs.scattering.scatter_ready.Goals as goal

pub scatter_open-requires-clause-there : goal.scatter_open-requires-clause-there
scatter_open-requires-clause-there g c = all-open _ _ c.args.names.now _ c.requires.none_open c.in-Ok.ensures.opened c.requires.names

pub returns-in-Ok-clause-ends : goal.returns-in-Ok-clause-ends
returns-in-Ok-clause-ends g c = ends-after c.args.names.now (task_in c.args.ready.now) _ _ _ _ _ c.in-Ok.ensures.opened c.scatter_open.ensures.ends

pub returns-in-Err-clause-ends : goal.returns-in-Err-clause-ends
returns-in-Err-clause-ends g c = ends-unopened c.args.names.now (task_in c.args.ready.now) _ _ _ c.in-Err.fault c.in-Err.ensures.some c.in-Err.ensures.faults

pub returns-in-Err-clause-causes : goal.returns-in-Err-clause-causes
returns-in-Err-clause-causes g c = causes-unopened c.in-Err.fault _ _ c.in-Err.ensures.faults c.in-Err.ensures.cause
