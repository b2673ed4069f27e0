use Rattle.std.proofs.Common.{◌^◌, ◌∙◌, refl, arith}
use Rattle.mr_table.proofs.LossLists.{one-more, one_device}
use Rattle.mr_table.proofs.losses.push_singles.Goals as goal

pub loop-device-preserved : goal.loop-device-preserved
loop-device-preserved c = one-more (λ i. 2 ^ i) _ _ _ c.of.result 0 c.loop-device.device _ c.loop-device.device c.loop-device.invariant c.in_ok-push.ensures.items (c.of.ensures ∙ one_device c.loop-device.device (omega (arith, c.loop-device-test.true, c.requires))) (omega arith) refl
