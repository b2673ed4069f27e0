use Rattle.mr_survey.proofs.KnownLaws.{looked-err, looked-ok, rotated-low}
use Rattle.mr_survey.proofs.known.look.Goals as goal

pub problem_of-requires : goal.problem_of-requires
problem_of-requires c = rotated-low c.args.matrix.now c.rotated-rotated.result c.args.pattern c.of.result c.rotated-rotated.ensures.code c.of.ensures c.requires.lost

pub returns-in-Ok-clause-determined : goal.returns-in-Ok-clause-determined
returns-in-Ok-clause-determined c = looked-ok c.args.matrix.now c.rotated-rotated.result c.args.pattern c.of.result c.rotated-rotated.ensures.code c.of.ensures
    c.problem_of.result _ c.problem_of.ensures.value c.in-Ok.is

pub returns-in-Err-clause-fault : goal.returns-in-Err-clause-fault
returns-in-Err-clause-fault c = looked-err c.args.matrix.now c.rotated-rotated.result c.args.pattern c.of.result c.rotated-rotated.ensures.code c.of.ensures
    c.problem_of.result c.in-Err.field-0 c.args.stripe c.problem_of.ensures.value c.in-Err.is
