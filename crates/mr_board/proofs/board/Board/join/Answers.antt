use Rattle.std.proofs.Common.{rules, arith}
use Rattle.mr_board.specs.Boards.{board_terms}
use Rattle.mr_board.proofs.Seats.{joins}
use Rattle.mr_board.proofs.Steps.{reviews}
use Rattle.mr_board.proofs.board.Board.join.Goals as goal

pub join_seat-requires : goal.join_seat-requires
join_seat-requires c =
    let b = c.args.self.now in
    (search rules, search rules, search rules, omega (arith, b.all_named), joins (board_terms b) _ _ _ _ c.args.pass.now.live c.requires.idle c.requires.other_idle)

pub load-requires : goal.load-requires
load-requires c =
    let b = c.args.self.now in
    (search rules, omega (arith, b.all_named), reviews (board_terms b) _ _ _)
