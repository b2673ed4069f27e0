use Rattle.std.proofs.Common.{◌+◌, ◌∙◌, length, sym, subst, ap}
use Rattle.mr_model.specs.Members.{members}
use Rattle.mr_eq.specs.Problems.{Loss}
use Rattle.mr_search.specs.declared.worker.Worker.{Worker}
use Rattle.mr_search.specs.Work.{IsIdle}
use Rattle.mr_search.proofs.crew.find_keys.Goals as goal

pub for_each_mut-requires-clause-accepts : goal.for_each_mut-requires-clause-accepts
for_each_mut-requires-clause-accepts g c κs within i p low is κs2 a b n vals ranges =
    let idle = subst (λ (v : Worker). IsIdle (length (members c.args.inputs.now.equations.now.targets) + 1) v) (sym is) (c.requires.idle i p.now low) in
    λ x y z f. (c.levels-levels.ensures ∙ sym (ap (λ (q : Loss). length (members q.targets)) c.requires.problem), idle)
