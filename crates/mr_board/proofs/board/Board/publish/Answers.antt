use Rattle.std.proofs.Common.{rules, arith}
use Rattle.mr_board.specs.Boards.{board_terms}
use Rattle.mr_board.proofs.Numbers.{claimed-inside}
use Rattle.mr_board.proofs.Steps.{publishes}
use Rattle.mr_board.proofs.board.Board.publish.Goals as goal

pub store-requires : goal.store-requires
store-requires c =
    let b = c.args.self.now in
    let low = claimed-inside _ _ _ c.requires.pass.claimed c.requires.claim in
    (search rules, omega (arith, b.all_named, low), publishes (board_terms b) _ _ _ _ c.requires.claim c.requires.full)
