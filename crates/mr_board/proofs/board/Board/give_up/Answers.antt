use Rattle.std.proofs.Common.{rules, arith}
use Rattle.mr_board.specs.Boards.{board_terms}
use Rattle.mr_board.proofs.Numbers.{claimed-inside}
use Rattle.mr_board.proofs.Steps.{gives_up}
use Rattle.mr_board.proofs.board.Board.give_up.Goals as goal

pub load-requires : goal.load-requires
load-requires c =
    let b = c.args.self.now in
    let low = claimed-inside _ _ _ c.requires.pass.claimed c.requires.claim in
    (search rules, omega (arith, b.all_named, low), gives_up (board_terms b) _ _ _ _ c.requires.claim)
