use Rattle.std.proofs.Common.{rules}
use Rattle.mr_board.specs.Boards.{board_terms}
use Rattle.mr_board.proofs.Steps.{reads}
use Rattle.mr_board.proofs.board.Board.word.Goals as goal

pub load-requires : goal.load-requires
load-requires c = (search rules, c.word_place-place.ensures.inside, reads (board_terms c.args.self.now) _ _ _ _ c.requires.pass.terms)
