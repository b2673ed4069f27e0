use Rattle.std.proofs.Common.{◌≡◌, max}
use Rattle.mr_board.specs.Boards.{pass_view, IsPassOf}
use Rattle.mr_mend.specs.Menders.{filled_view}
use Rattle.mr_mend.proofs.menders.store_words.Given as goal

abbrev pub invariant-loop-index : goal.invariant-loop-index
invariant-loop-index l = record {
  pass : IsPassOf l.board l.pass;
  filled : pass_view l.pass ≡ filled_view (pass_view l.initial.pass) (max (pass_view l.initial.pass).filled l.index);
}
