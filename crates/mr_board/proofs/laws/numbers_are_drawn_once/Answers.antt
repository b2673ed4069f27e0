use Rattle.mr_counts.proofs.NumberLaws.{weighed-shared}
use Rattle.mr_board.specs.Rule.{drawn}
use Rattle.mr_board.specs.declared.view.PassView.{PassView}
use Rattle.mr_board.proofs.laws.numbers_are_drawn_once.Goals as goal

pub returns : goal.returns
returns c terms words views kept = weighed-shared (λ (v : PassView). v.draws) views (drawn words) kept.all_draws
