use Rattle.std.proofs.Common.{ℕ, Vec, Global, Ok}
use Rattle.std.proofs.lemmas.Result.{err_from_is_err_and}
use Rattle.mr_array_words.specs.Scatter.{scatter_asked}
use Rattle.mr_model.specs.Code.{dimensions}
use Rattle.mr_steps.specs.Refusals.{followed_by}
use Rattle.mr_steps.proofs.Chains.{gives_err}
use Rattle.mr_scatter_run.specs.Tasks.{lost_given, stream_head, task_for, task_in}
use Rattle.mr_scatter_run.proofs.ScatterLaws.{task-read, task-refused}
use Rattle.mr_scatter_run.proofs.task.read_task_of.Goals as goal

pub returns-in_err-lost-clause-given : goal.returns-in_err-lost-clause-given
unfolding task_for
returns-in_err-lost-clause-given g c =
    let p = err_from_is_err_and c.from_residual.result c.from_residual.ensures.1 in
    rw (p.1, p.2) (λ left there. gives_err (λ (list : Vec ℕ Global). list.items) task_in _ (lost_given c.args.matrix.now c.args.words.now.lost)
    (λ lost. followed_by (stream_head (dimensions c.args.matrix.now) left) (λ l. Ok (record { layout = l; first = c.args.words.now.first; lost = lost }))) c.in_err-lost.ensures.given)

pub returns-in_err-head-clause-given : goal.returns-in_err-head-clause-given
returns-in_err-head-clause-given g c =
    let p = err_from_is_err_and c.from_residual-in_err-head.result c.from_residual-in_err-head.ensures.1 in
    rw (p.1, p.2) (λ left there. task-refused c.args.matrix.now (scatter_asked c.args.words.now) left c.shape.result c.in_ok-lost.lost.items c.shape.ensures.shape c.in_ok-lost.ensures.given _ (c.in_err-head.ensures.given left there))

pub returns-clause-given : goal.returns-clause-given
returns-clause-given g c left there =
    task-read c.args.matrix.now (scatter_asked c.args.words.now) left c.shape.result c.in_ok-lost.lost.items c.shape.ensures.shape c.in_ok-lost.ensures.given c.in_ok-head.head (c.in_ok-head.ensures.given left there)
