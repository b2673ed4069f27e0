use Rattle.mr_cache.specs.Cache.{IsSameCache, budget_of}
use Rattle.mr_patch.specs.Damages.{parts_of}
use Rattle.mr_patch.proofs.MendTurns.{MendedBelow}
use Rattle.mr_patch.proofs.Walking.{IsWalking}
use Rattle.mr_patch.proofs.mending.mend_failed.Given as goal

-- the stripes before this one are mended, and the sectors of the others are left
abbrev pub invariant-loop-stripe : goal.invariant-loop-stripe
invariant-loop-stripe g l =
    MendedBelow (parts_of l.fn.patching.damage) (budget_of l.initial.cache) l.stripe l.reads (g.E.Eye.sight l.initial.eye) (g.E.Eye.sight l.eye)
    (g.E.Eye.faults l.initial.eye) (g.E.Eye.faults l.eye) l.fn.image l.image
    × IsWalking l.fn.patching.damage.sectors.now l.left l.stripe × IsSameCache l.initial.cache l.cache
