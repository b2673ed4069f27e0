use Rattle.mr_patch.specs.Damages.{parts_of}
use Rattle.mr_patch.proofs.CopyTurns.{CopiedBelow}
use Rattle.mr_patch.proofs.Walking.{IsWalking}
use Rattle.mr_patch.proofs.copying.copy_others.Given as goal

-- the stripes before this one are copied, and the sectors of the others are left
abbrev pub invariant-loop-stripe : goal.invariant-loop-stripe
invariant-loop-stripe g l =
    CopiedBelow (parts_of l.fn.damage) l.stripe (g.E.Eye.sight l.initial.eye) (g.E.Eye.sight l.eye) (g.E.Eye.faults l.initial.eye) (g.E.Eye.faults l.eye) l.fn.image l.image
    × IsWalking l.fn.damage.sectors.now l.left l.stripe
