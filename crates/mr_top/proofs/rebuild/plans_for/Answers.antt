use Rattle.mr_top.proofs.Rotations.{one-valid}
use Rattle.mr_top.proofs.rebuild.plans_for.Goals as goal

pub returns-in-Some-clause-valid : goal.returns-in-Some-clause-valid
returns-in-Some-clause-valid g c = one-valid c.args.read.head c.args.read.matrix c.args.read.lost c.args.read.handed c.in-Some.chosen c.of_one.result c.in-Some.is
    c.requires.read.handed c.requires.read.version c.of_one.ensures.plans
