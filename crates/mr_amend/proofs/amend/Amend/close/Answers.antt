use Rattle.std.proofs.Common.{get_or}
use Rattle.mr_amend.proofs.Gathering.{closed_by}
use Rattle.mr_amend.proofs.amend.Amend.close.Goals as goal

pub returns-clause-closed : goal.returns-clause-closed
returns-clause-closed c = λ t d low.
    closed_by c.args.self c.args.callers.items c.gather-seat.result t (get_or c.close-stripes.result.items t d) c.gather-seat.ensures.made (c.close-stripes.ensures.closed t d low)
