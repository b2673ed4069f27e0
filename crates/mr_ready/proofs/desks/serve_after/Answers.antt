use Rattle.mr_ready.proofs.FinalLaws.{err-from, rose-first}
use Rattle.mr_ready.proofs.desks.serve_after.Goals as goal

pub returns-in_err-serve_asks-clause-cause : goal.returns-in_err-serve_asks-clause-cause
returns-in_err-serve_asks-clause-cause g c = err-from c.from_residual.result (rose-first g.E.Eye.faults c.serve_asks.new.eye _ c.in_err-serve_asks.ensures.cause.failed)
