use Rattle.mr_plan.specs.PlanLists.{recipes_at}
use Rattle.mr_mend.proofs.Serves.{ServedBelow}
use Rattle.mr_mend.proofs.serving.serve_asks.Given as goal

-- the first k asks are served
abbrev pub invariant-loop-k : goal.invariant-loop-k
invariant-loop-k g l = ServedBelow l.fn.rebuild.head.now (recipes_at l.fn.rebuild.plans.now) l.fn.rebuild.asks.now l.k (g.E.Eye.sight l.initial.eye) (g.E.Eye.sight l.eye) (g.E.Eye.faults l.initial.eye) (g.E.Eye.faults l.eye) l.fn.image l.replies
