use Rattle.mr_board.specs.Boards.{pass_view}
use Rattle.mr_mend.proofs.Drawing.{filled-start}
use Rattle.mr_mend.proofs.menders.store_words.Goals as goal

pub loop-index-init : goal.loop-index-init
loop-index-init c = record { pass = c.requires.pass; filled = filled-start (pass_view c.args.pass.now) }
