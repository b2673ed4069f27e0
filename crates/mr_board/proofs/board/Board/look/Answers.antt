use Rattle.std.proofs.Common.{rules, ℕ, ◌<◌, arith, subst, eq-eqb}
use Rattle.mr_counts.specs.Numbers.{times}
use Rattle.mr_board.specs.Boards.{board_terms}
use Rattle.mr_board.proofs.Steps.{state_word, looks}
use Rattle.mr_board.proofs.board.Board.look.Goals as goal

pub load-requires : goal.load-requires
load-requires c =
    let b = c.args.self.now in
    (search rules, omega (arith, b.all_named, c.requires.stripe), looks (board_terms b) _ _ _ _ c.requires.stripe)

pub returns-clause-stays : goal.returns-clause-stays
returns-clause-stays c = λ seen. eq-eqb _ 1
    (c.load.ensures.2.1 (subst (λ (t : ℕ). 0 < times t c.args.pass.now.seat.me.0.seen) (state_word c.args.stripe) seen))
