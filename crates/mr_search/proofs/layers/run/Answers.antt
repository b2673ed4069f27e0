use Rattle.std.proofs.Common.{◌+◌, length, sym, subst}
use Rattle.mr_model.specs.Members.{members}
use Rattle.mr_search.specs.declared.worker.Worker.{Worker}
use Rattle.mr_search.specs.Work.{IsReady}
use Rattle.mr_search.proofs.layers.run.Goals as goal

pub for_each_mut-requires-clause-accepts : goal.for_each_mut-requires-clause-accepts
for_each_mut-requires-clause-accepts g c κs within i p low is κs2 a b n vals ranges =
    let ready = subst (λ (v : Worker). IsReady c.args.task.now.bound.now (length (members c.args.task.now.equations.now.targets) + 1) v) (sym is) (c.requires.ready i p.now low) in
    λ x y z. (c.requires.task, ready)
