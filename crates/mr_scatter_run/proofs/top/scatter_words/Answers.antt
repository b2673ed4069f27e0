use Rattle.mr_array_words.specs.Scatter.{scatter_asked}
use Rattle.mr_scatter_run.specs.Tasks.{body_of, task_in}
use Rattle.mr_scatter_run.proofs.ScatterLaws.{scatters-err, scatters-ok, scatters-refused}
use Rattle.mr_scatter_run.proofs.top.scatter_words.Goals as goal

pub returns-in-Err-clause-scatters : goal.returns-in-Err-clause-scatters
returns-in-Err-clause-scatters g c told there left is shelf has =
    scatters-refused told.contents left (scatter_asked c.args.words.now) shelf _ task_in c.in-Err.fault (c.in-Err.ensures.reads left is told there).gives has

pub returns-in-Ok-scatter_ready-clause-scatters : goal.returns-in-Ok-scatter_ready-clause-scatters
returns-in-Ok-scatter_ready-clause-scatters g c told there left is shelf has =
    scatters-ok told.contents left (scatter_asked c.args.words.now) shelf _ (task_in c.in-Ok.ready) (c.in-Ok.ensures.reads left is told there).gives task_in c.in-Ok-scatter_ready.field-0 _ c.deref.result.now c.deref.ensures.value c.scatter_ready.ensures.same
    (c.in-Ok-scatter_ready.ensures.ends (body_of left) (c.in-Ok.ensures.rest left is) shelf has)

pub returns-in-Err-scatter_ready-clause-scatters : goal.returns-in-Err-scatter_ready-clause-scatters
returns-in-Err-scatter_ready-clause-scatters g c told there left is shelf has =
    scatters-err told.contents left (scatter_asked c.args.words.now) shelf _ (task_in c.in-Ok.ready) (c.in-Ok.ensures.reads left is told there).gives task_in c.in-Err-scatter_ready.end c.deref.result.now c.deref.ensures.value
    (c.in-Err-scatter_ready.ensures.ends (body_of left) (c.in-Ok.ensures.rest left is) shelf has)
