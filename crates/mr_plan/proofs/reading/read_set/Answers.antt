use Rattle.mr_plan.specs.Readings.{set_of}
use Rattle.mr_plan.proofs.reading.read_set.Goals as goal

pub returns : goal.returns
unfolding set_of
returns c = c.read_set_after.ensures
