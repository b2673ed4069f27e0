use Rattle.std.proofs.Common.{◌≡◌, ◌-◌}
use Rattle.mr_counts.specs.Numbers.{next_above}
use Rattle.mr_io.specs.Sights.{sight_with}
use Rattle.mr_board.specs.Terms.{stripes_of}
use Rattle.mr_board.specs.Boards.{board_terms, pass_view, IsPassOf, IsReady}
use Rattle.mr_mend.specs.Menders.{IsRoomOf, HasPublished, drawn_bytes}
use Rattle.mr_mend.proofs.menders.mend_drawn.Given as goal

abbrev pub invariant-loop-claim : goal.invariant-loop-claim
invariant-loop-claim g l = record {
  pass : IsPassOf l.task.board.now l.pass;
  ready : IsReady (pass_view l.pass);
  published : HasPublished (pass_view l.initial.pass) (pass_view l.pass);
  room : IsRoomOf l.task.head.now l.task.plans.now l.room;
  taken : g.E.Eye.sight l.eye ≡ sight_with (g.E.Eye.sight l.initial.eye) (drawn_bytes l.task.head.now l.task.plans.now (pass_view l.pass).draws);
  quiet : g.E.Eye.faults l.eye ≡ g.E.Eye.faults l.initial.eye;
}

abbrev pub decreases-loop-claim : goal.decreases-loop-claim
decreases-loop-claim g l = stripes_of (board_terms l.task.board.now) - next_above (pass_view l.pass).draws
