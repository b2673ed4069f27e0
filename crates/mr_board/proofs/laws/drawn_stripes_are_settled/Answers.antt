use Rattle.mr_board.proofs.Settled.{are-settled}
use Rattle.mr_board.proofs.laws.drawn_stripes_are_settled.Goals as goal

pub returns : goal.returns
returns c = are-settled
