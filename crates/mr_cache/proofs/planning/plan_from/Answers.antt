use Rattle.std.proofs.Common.{ap, refl}
use Rattle.mr_choices.specs.declared.chosen.ChosenPlan.{ChosenPlan}
use Rattle.mr_choices.proofs.PlanChoice.{least-lean, least-chosen, spent-lean, spent-chosen}
use Rattle.mr_cache.proofs.planning.plan_from.Goals as goal

pub of-requires-clause-set : goal.of-requires-clause-set
of-requires-clause-set c =
    least-lean c.args.problem.now c.args.matrix.now c.targets-targets.ensures.loss c.requires.loss c.args._budget c.args.found c.requires.found
    _ _ _ c.targets-targets.ensures.targets c.in-Least.is

pub returns-in-Least : goal.returns-in-Least
returns-in-Least c = ap (λ (k : ChosenPlan). k.plan)
    (least-chosen c.args.problem.now c.args.matrix.now c.targets-targets.ensures.loss c.requires.loss c.args._budget c.args.found c.requires.found
    _ _ _ _ _ c.targets-targets.ensures.targets c.in-Least.is refl c.of.ensures.made)

pub of-requires-in-Spent-clause-set : goal.of-requires-in-Spent-clause-set
of-requires-in-Spent-clause-set c =
    spent-lean c.args.problem.now c.args.matrix.now c.targets-targets.ensures.loss c.requires.loss c.args._budget c.args.found c.requires.found
    _ _ c.targets-targets.ensures.targets c.in-Spent.is

pub returns-in-Spent : goal.returns-in-Spent
returns-in-Spent c = ap (λ (k : ChosenPlan). k.plan)
    (spent-chosen c.args.problem.now c.args.matrix.now c.targets-targets.ensures.loss c.requires.loss c.args._budget c.args.found c.requires.found
    _ _ _ _ c.targets-targets.ensures.targets c.in-Spent.is refl c.of-in-Spent.ensures.made)
