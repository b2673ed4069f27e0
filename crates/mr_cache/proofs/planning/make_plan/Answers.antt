use Rattle.mr_cache.proofs.Making.{rotated-low, planned-ok, planned-err}
use Rattle.mr_cache.proofs.planning.make_plan.Goals as goal

pub problem_of-requires : goal.problem_of-requires
problem_of-requires c = rotated-low c.args.matrix.now c.rotated-rotated.result c.args.pattern.rotation c.args.pattern.lost c.of.result c.rotated-rotated.ensures.code c.of.ensures c.requires.lost

pub returns-in-Ok : goal.returns-in-Ok
returns-in-Ok c = planned-ok c.args.matrix.now c.rotated-rotated.result c.args.budget c.args.pattern c.of.result c.rotated-rotated.ensures.code c.of.ensures
    c.problem_of.result c.in-Ok.problem c.search_plan.result c.problem_of.ensures.value c.in-Ok.is c.search_plan.ensures.plan c.search_plan.ensures.memory

pub returns-in-Err : goal.returns-in-Err
returns-in-Err c = planned-err c.args.matrix.now c.rotated-rotated.result c.args.budget c.args.pattern c.of.result c.rotated-rotated.ensures.code c.of.ensures
    c.problem_of.result c.in-Err.field-0 c.problem_of.ensures.value c.in-Err.is
