use Rattle.mr_kept.proofs.MendLaws.{IsMendedBelow}
use Rattle.mr_kept.proofs.keepers.Keeper.mend_by.Given as goal

abbrev pub invariant-loop-recipe : goal.invariant-loop-recipe
invariant-loop-recipe g l = IsMendedBelow l.self.head.now l.plan.recipes l.recipe-index l.fn.bytes l.bytes
