use Rattle.std.proofs.Common.{subst, sym}
use Rattle.mr_gather_run.proofs.Losses.{Survives, within-survives}
use Rattle.mr_gather_run.proofs.task.set_of_text.Goals as goal

pub returns-clause-survive : goal.returns-clause-survive
returns-clause-survive c = subst (Survives c.args.matrix.now c.args.lost) (sym c.set.ensures)
    (within-survives c.args.matrix.now c.args.lost c.in_ok-plan.plan.set c.in_ok-plan.ensures.valid.survivors)
