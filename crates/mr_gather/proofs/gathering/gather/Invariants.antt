use Rattle.mr_gather.proofs.SendLaws.{IsSent}
use Rattle.mr_gather.proofs.gathering.gather.Given as goal

-- the stripes so far are put
abbrev pub invariant-loop-number : goal.invariant-loop-number
invariant-loop-number g l = IsSent g.E.Eye.sight g.E.Eye.faults l.gathering.head l.gathering.set l.gathering.first l.number l.initial.eyes l.eyes (g.K.Sink.held l.fn.out) (g.K.Sink.held l.out) (g.K.Sink.faults l.fn.out) (g.K.Sink.faults l.out)
