use Rattle.mr_gather_run.proofs.Reaching.{IsReached}
use Rattle.mr_gather_run.proofs.gathering.reach.Given as goal

-- the devices before this one were looked at
abbrev pub invariant-loop-device : goal.invariant-loop-device
invariant-loop-device g l = IsReached g.E.Eye.sight g.E.Eye.faults l.end l.initial.slots l.slots l.device
