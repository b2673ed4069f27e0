use Rattle.std.proofs.Common.{rules, arith}
use Rattle.mr_board.specs.Boards.{board_terms}
use Rattle.mr_board.proofs.Seats.{splits}
use Rattle.mr_board.proofs.board.Board.split.Goals as goal

pub split_seat-seat-requires : goal.split_seat-seat-requires
split_seat-seat-requires c =
    let b = c.args.self.now in
    (search rules, omega (arith, b.all_named), splits (board_terms b) _ _ c.args.pass.now.live c.requires.left)
