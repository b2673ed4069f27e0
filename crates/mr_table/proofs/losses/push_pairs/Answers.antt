use Rattle.mr_table.specs.Losses.{pairs_with}
use Rattle.mr_table.proofs.LossLists.{list-more}
use Rattle.mr_table.proofs.losses.push_pairs.Goals as goal

pub loop-first-preserved : goal.loop-first-preserved
loop-first-preserved c = list-more (pairs_with c.args.devices) _ _ _ c.loop-first.first c.loop-first.invariant c.in_ok-push_pairs_with.ensures
