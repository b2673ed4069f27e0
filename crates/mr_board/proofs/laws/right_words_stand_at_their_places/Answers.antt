use Rattle.mr_board.proofs.Places.{stand-at-places}
use Rattle.mr_board.proofs.laws.right_words_stand_at_their_places.Goals as goal

pub returns : goal.returns
returns c = stand-at-places
