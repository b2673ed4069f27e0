use Rattle.std.proofs.Common.{rules, arith, ap, ◌≤◌}
use Rattle.mr_counts.specs.Numbers.{next_above}
use Rattle.mr_board.specs.Terms.{stripes_of}
use Rattle.mr_board.specs.Boards.{board_terms}
use Rattle.mr_board.proofs.Steps.{draws}
use Rattle.mr_board.proofs.board.Board.draw.Goals as goal

pub fetch_add-drawn-requires : goal.fetch_add-drawn-requires
fetch_add-drawn-requires c =
    let b = c.args.self.now in
    let few : next_above c.args.pass.now.seat.me.0.draws ≤ stripes_of (board_terms b) = omega (arith, c.requires.ready.more, ap stripes_of c.requires.pass.terms) in
    (search rules, omega (arith, b.all_named), draws (board_terms b) _ _ _ c.requires.pass.terms c.args.pass.now.live few c.requires.ready.idle)
