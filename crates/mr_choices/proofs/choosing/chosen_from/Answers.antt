use Rattle.std.proofs.Common.{ap, ◌∙◌}
use Rattle.mr_eq.specs.Problems.{Loss}
use Rattle.mr_model.specs.Code.{cost}
use Rattle.mr_choices.proofs.PlanChoice.{least-lean, least-chosen, spent-lean, spent-chosen}
use Rattle.mr_choices.proofs.choosing.chosen_from.Goals as goal

pub of-requires-clause-set : goal.of-requires-clause-set
of-requires-clause-set c = least-lean c.args.problem.now c.args.matrix.now c.targets-targets.ensures.loss c.requires.loss c.args.budget c.args.found c.requires.found
    _ _ _ c.targets-targets.ensures.targets c.in-Least.is

pub returns-in-Least-clause-chosen : goal.returns-in-Least-clause-chosen
returns-in-Least-clause-chosen c = least-chosen c.args.problem.now c.args.matrix.now c.targets-targets.ensures.loss c.requires.loss c.args.budget c.args.found c.requires.found
    _ _ _ _ _ c.targets-targets.ensures.targets c.in-Least.is (c.cost.ensures.cost ∙ ap (λ (p : Loss). cost p.code c.in-Least.set) c.requires.loss) c.of.ensures.made

pub of-requires-in-Spent-clause-set : goal.of-requires-in-Spent-clause-set
of-requires-in-Spent-clause-set c = spent-lean c.args.problem.now c.args.matrix.now c.targets-targets.ensures.loss c.requires.loss c.args.budget c.args.found c.requires.found
    _ _ c.targets-targets.ensures.targets c.in-Spent.is

pub returns-in-Spent-clause-chosen : goal.returns-in-Spent-clause-chosen
returns-in-Spent-clause-chosen c = spent-chosen c.args.problem.now c.args.matrix.now c.targets-targets.ensures.loss c.requires.loss c.args.budget c.args.found c.requires.found
    _ _ _ _ c.targets-targets.ensures.targets c.in-Spent.is (c.cost-in-Spent.ensures.cost ∙ ap (λ (p : Loss). cost p.code c.in-Spent.set) c.requires.loss) c.of-in-Spent.ensures.made
