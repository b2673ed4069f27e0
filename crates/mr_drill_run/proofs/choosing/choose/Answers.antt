use Rattle.mr_drill_run.proofs.ChoiceLaws.{first-cost}
use Rattle.mr_drill_run.proofs.choosing.choose.Goals as goal

pub returns-clause-cost : goal.returns-clause-cost
returns-clause-cost g c =
    first-cost c.args.head.now c.args.code.now c.args.lost c.args.choosing.now.budget c.cost_of-cost.result c.in_ok-chosen.chosen.lines.items _ c.index.result.now
    c.shape-within_the_limits.ensures.code c.requires.version c.in_ok-chosen.ensures.lines c.index.ensures c.cost_of-cost.ensures
