use Rattle.mr_drill_run.proofs.EyeLaws.{eyes-rose}
use Rattle.mr_drill_run.proofs.mending.carried.Goals as goal

pub returns-clause-cause : goal.returns-clause-cause
returns-clause-cause g c =
    eyes-rose g.F.E.Eye.faults c.mend_image-mended.result.eyes.items c.mend_image-mended.result.made _ _ c.mend_image-mended.ensures.cause c.retire_all.ensures.faults
