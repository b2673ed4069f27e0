use Rattle.std.proofs.Common.{◌≡◌, ◌∙◌, ◌+◌, ap, get_or}
use Rattle.std.proofs.lemmas.Result.{err_from_is_err_and}
use Rattle.mr_gather_run.proofs.Lending.{lends, refuses}
use Rattle.mr_gather_run.proofs.slots.lend_slots.Goals as goal

pub returns-in_err-slot-clause-refused : goal.returns-in_err-slot-clause-refused
returns-in_err-slot-clause-refused g c =
    let is : c.device-item.result ≡ get_or c.args.devices.now c.loop-device.device-index c.device-item.result = c.device-item.is in
    let p = err_from_is_err_and c.from_residual.result c.from_residual.ensures.1 in
    rw p.1
    (refuses g.F.E.Eye.sight g.F.E.Eye.faults _ _ _ _ _ _ _ c.args.devices.now c.loop-device.device-index c.device-item.result _ c.loop-device.invariant.0
    c.loop-device-test.true is c.in_err-slot.ensures.refused)

pub loop-device-preserved : goal.loop-device-preserved
loop-device-preserved g c =
    let is : c.device-item.result ≡ get_or c.args.devices.now c.loop-device.device-index c.device-item.result = c.device-item.is in (
      lends g.F.E.Eye.sight g.F.E.Eye.faults _ _ _ _ _ _ _ _ _ c.args.devices.now c.loop-device.device-index c.device-item.result _ _ c.in_ok-slot.slot c.loop-device.invariant.0
          c.loop-device-test.true is c.in_ok-slot.ensures.fresh c.in_ok-slot.ensures.no_faults c.in_ok-slot.ensures.told c.in_ok-slot.ensures.totals
          c.in_ok-slot.ensures.quiet c.push_reserved.ensures.items,
      c.push_reserved.ensures.len ∙ ap (λ k. k + 1) c.loop-device.invariant.1,
      c.push_reserved.ensures.capacity ∙ c.loop-device.invariant.2,
      λ none. c.lend_slot.ensures.untold (c.loop-device.invariant.3 none),
    )
