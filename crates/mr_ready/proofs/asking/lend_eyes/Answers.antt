use Rattle.std.proofs.Common.{chars}
use Rattle.mr_ready.specs.Duties.{eyes_on}
use Rattle.mr_ready.proofs.Lending.{asks-front_of, can-return, totals-kept}
use Rattle.mr_ready.proofs.asking.lend_eyes.Goals as goal

pub retire_all-requires-after_bounds : goal.retire_all-requires-after_bounds
retire_all-requires-after_bounds g c κs within =
    can-return _ _ (eyes_on (chars c.args.image.now) c.args.duties.now) _ c.in-Err.ensures.refused c.in-Err.ensures.untold

pub returns-in-Err-clause-refused : goal.returns-in-Err-clause-refused
returns-in-Err-clause-refused g c =
    asks-front_of _ _ _ (eyes_on (chars c.args.image.now) c.args.duties.now) _ c.in-Err.ensures.refused c.retire_all.ensures.told

pub returns-in-Err-clause-totals : goal.returns-in-Err-clause-totals
returns-in-Err-clause-totals g c =
    totals-kept g.F.E.Eye.sight _ _ _ _ _ _ c.in-Err.ensures.fresh c.in-Err.ensures.totals c.retire_all.ensures.totals
