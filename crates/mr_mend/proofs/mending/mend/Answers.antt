use Rattle.std.proofs.Common.{◌<◌, length, arith}
use Rattle.std.proofs.lemmas.Result.{on_err_weaker}
use Rattle.mr_mend.proofs.mending.mend.Goals as goal

pub returns-clause-worked : goal.returns-clause-worked
returns-clause-worked g c k d low = (c.work_all.ensures k d low).worked

pub returns-clause-failed : goal.returns-clause-failed
returns-clause-failed g c = on_err_weaker c.outcome.result
    (λ p. let low : p.0 < length c.args.workers.now = omega (arith, p.1, c.work_all.auto.workers) in (p.0, low, λ d. (c.work_all.ensures p.0 d low).failed (p.2 d))) c.outcome.ensures.some
