use Rattle.mr_board.proofs.Settled.{done-are-seen}
use Rattle.mr_board.proofs.laws.done_stripes_are_right_and_seen.Goals as goal

pub returns : goal.returns
returns c = done-are-seen
