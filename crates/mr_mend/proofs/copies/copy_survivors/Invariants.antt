use Rattle.mr_mend.proofs.Copying.{CopiedBelow}
use Rattle.mr_mend.proofs.copies.copy_survivors.Given as goal

-- all stripes before this one are copied
abbrev pub invariant-loop-stripe : goal.invariant-loop-stripe
invariant-loop-stripe g l = CopiedBelow l.fn.head l.copied l.stripe (g.E.Eye.sight l.initial.eye) (g.E.Eye.sight l.eye) (g.E.Eye.faults l.initial.eye) (g.E.Eye.faults l.eye) l.fn.image l.image
