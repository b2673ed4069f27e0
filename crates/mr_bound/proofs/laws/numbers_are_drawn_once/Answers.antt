use Rattle.mr_counts.proofs.NumberLaws.{weighed-shared}
use Rattle.mr_bound.specs.declared.view.BoundView.{BoundView}
use Rattle.mr_bound.proofs.laws.numbers_are_drawn_once.Goals as goal

pub returns : goal.returns
returns c p chunks cost drawn views kept = weighed-shared (λ (v : BoundView). v.draws) views drawn kept.all_draws
