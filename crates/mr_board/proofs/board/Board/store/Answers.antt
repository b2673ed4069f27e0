use Rattle.std.proofs.Common.{rules}
use Rattle.mr_board.specs.Boards.{board_terms}
use Rattle.mr_board.proofs.Steps.{stores_at}
use Rattle.mr_board.proofs.board.Board.store.Goals as goal

pub store-requires : goal.store-requires
store-requires c = (
  search rules,
  c.word_place-place.ensures.inside,
  stores_at (board_terms c.args.self.now) _ _ _ _ _ _ _ c.word_place-place.ensures.place c.requires.pass.terms c.requires.claim c.requires.next c.requires.index c.requires.right,
)
