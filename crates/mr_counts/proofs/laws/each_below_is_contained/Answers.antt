use Rattle.mr_counts.proofs.NumberLaws.{AreEachBelow-below, AreEachBelow-Contains}
use Rattle.mr_counts.proofs.laws.each_below_is_contained.Goals as goal

pub returns : goal.returns
returns c ns n x all = (AreEachBelow-below ns n x all, AreEachBelow-Contains ns n x all)
