use Rattle.mr_counts.proofs.NumberLaws.{weighed-shared}
use Rattle.mr_counts.proofs.laws.weighed_as_below_is_shared.Goals as goal

pub returns : goal.returns
returns c = weighed-shared (λ l. l)
