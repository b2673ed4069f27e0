use Rattle.std.specs.Vec.Iter.{into_iter_items}
use Rattle.mr_gather_run.proofs.Retirings.{retires}
use Rattle.mr_gather_run.proofs.slots.retire_slots.Goals as goal

pub loop-slot-preserved : goal.loop-slot-preserved
loop-slot-preserved g c =
    retires g.F.E.Eye.sight g.F.E.Eye.faults _ _ _ _ _ _ _ _ _ _ c.in-Some.slot (into_iter_items c.loop-slot.rest) (into_iter_items c.next.new.self)
    c.loop-slot.invariant c.in-Some.ensures.items c.retire_slot.ensures.told c.retire_slot.ensures.totals c.retire_slot.ensures.faults
