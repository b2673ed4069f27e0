use Rattle.mr_board_calls.specs.Menders.{CanPlay}
use Rattle.mr_board_calls.proofs.crews.Crew.play.Given as goal

abbrev pub invariant-loop-turn : goal.invariant-loop-turn
invariant-loop-turn l = CanPlay l.board l.crew
