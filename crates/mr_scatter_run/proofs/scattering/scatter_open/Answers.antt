use Rattle.std.proofs.Common.{◌∙◌, ◌<◌, ap, sym, subst, length}
use Rattle.std.specs.Prelude.{All}
use Rattle.mr_scatter.specs.Parts.{HasOpen}
use Rattle.mr_scatter_run.specs.Tasks.{task_in}
use Rattle.mr_scatter_run.proofs.EndLaws.{causes-err, ends-err, ends-ok}
use Rattle.mr_scatter_run.proofs.scattering.scatter_open.Goals as goal

pub scatter-requires-clause-there : goal.scatter-requires-clause-there
scatter-requires-clause-there g c = subst (λ xs. HasOpen (g.D.Devices.told c.args.devices.now) (length xs)) (sym c.deref.ensures.value) c.requires.there

pub scatter-requires-clause-lost : goal.scatter-requires-clause-lost
scatter-requires-clause-lost g c = subst (λ xs. All (λ d. d < c.args.ready.now.head.devices) xs) (sym c.deref.ensures.value) c.requires.ready.devices

pub scatter-requires-clause-stripe : goal.scatter-requires-clause-stripe
scatter-requires-clause-stripe g c = ap length c.deref_mut.ensures.value ∙ c.requires.ready.room

pub returns-in-Ok-clause-ends : goal.returns-in-Ok-clause-ends
returns-in-Ok-clause-ends g c names shelf told = ends-ok names (task_in c.args.ready.now) shelf _ _ _ told c.deref.result.now c.deref.ensures.value tt c.in-Ok.ensures.stored

pub returns-in-Err-clause-ends : goal.returns-in-Err-clause-ends
returns-in-Err-clause-ends g c names shelf told =
    ends-err names (task_in c.args.ready.now) shelf _ _ _ told c.deref.result.now c.deref.ensures.value c.in-Err.stopped c.end_of.result c.end_of.ensures c.in-Err.ensures.few c.in-Err.ensures.kept c.in-Err.ensures.front c.in-Err.ensures.wrong

pub returns-in-Err-clause-causes : goal.returns-in-Err-clause-causes
returns-in-Err-clause-causes g c = causes-err c.in-Err.stopped c.end_of.result _ _ c.end_of.ensures c.in-Err.ensures.read c.in-Err.ensures.write
