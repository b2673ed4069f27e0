use Rattle.std.proofs.Common.{◌≡◌}
use Rattle.mr_image.specs.Sights.{IsSameFile}
use Rattle.mr_board.specs.Boards.{pass_view, IsPassOf}
use Rattle.mr_mend.specs.Readers.{HasLooked}
use Rattle.mr_mend.proofs.SlotTurns.{IsReadTo}
use Rattle.mr_mend.proofs.readers.serve_slots.Given as goal

abbrev pub invariant-loop-slot : goal.invariant-loop-slot
invariant-loop-slot g l = record {
  pass : IsPassOf l.task.board.now l.pass;
  looked : HasLooked (pass_view l.initial.pass) (pass_view l.pass);
  file : IsSameFile (g.E.Eye.sight l.initial.eye) (g.E.Eye.sight l.eye);
  read : IsReadTo l.task.head.now l.task.plans.now l.task.singles.now l.task.asks.now (g.E.Eye.sight l.initial.eye).bytes l.initial.slots l.slots l.slot-index (g.E.Eye.sight l.initial.eye).taken (g.E.Eye.sight l.eye).taken;
  quiet : g.E.Eye.faults l.eye ≡ g.E.Eye.faults l.initial.eye;
}
