use Rattle.std.proofs.Common.{rules}
use Rattle.mr_top.proofs.CarriedOut.{faults-kept, faults-rose}
use Rattle.mr_top.proofs.carrying.carry_out.Goals as goal

pub returns-in-Ok-clause-quiet : goal.returns-in-Ok-clause-quiet
returns-in-Ok-clause-quiet g c = λ zero.
    faults-kept g.F.E.Eye.faults c.carry-eyes.result.eyes.items c.carry-eyes.result.result _ _ _ c.in-Ok.is c.carry-eyes.ensures.eyes_quiet c.retire_all.ensures.faults

pub returns-in-Err-Read-clause-read : goal.returns-in-Err-Read-clause-read
returns-in-Err-Read-clause-read g c = λ nine.
    faults-rose g.F.E.Eye.faults c.carry-eyes.result.eyes.items c.carry-eyes.result.result _ _ _ _ c.in-Err-Read.is (search rules)
    c.carry-eyes.ensures.read_cause c.retire_all.ensures.faults
