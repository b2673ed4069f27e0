use Rattle.std.proofs.Common.{◌<◌}
use Rattle.mr_counts.specs.Numbers.{times}
use Rattle.mr_board.specs.Boards.{pass_view, IsPassOf}
use Rattle.mr_board_calls.proofs.tests.take_turns.Given as goal

abbrev pub invariant-loop-stripe : goal.invariant-loop-stripe
invariant-loop-stripe g l = IsPassOf l.board l.pass

abbrev pub invariant-loop-level : goal.invariant-loop-level
invariant-loop-level g l = record {
  pass : IsPassOf l.board l.pass;
  seen : 0 < times l.stripe (pass_view l.pass).seen;
}
