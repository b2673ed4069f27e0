use Rattle.std.proofs.Common.{◌+◌, ◌^◌, ◌∙◌, bit_or, arith}
use Rattle.mr_table.proofs.LossLists.{one-more, two_devices}
use Rattle.mr_table.proofs.losses.push_pairs_with.Goals as goal

pub loop-second-preserved : goal.loop-second-preserved
loop-second-preserved c = (
  omega (arith, c.loop-second.invariant.0),
  one-more (λ j. bit_or (2 ^ c.args.first) (2 ^ j)) _ _ _ c.of.result (c.args.first + 1) _ _ c.loop-second.second c.loop-second.invariant.1 c.in_ok-push.ensures.items (c.of.ensures ∙ two_devices c.args.first c.loop-second.second (omega (arith, c.requires.0, c.requires.1)) (omega (arith, c.loop-second-test.true, c.requires.1)))
      (omega (arith, c.loop-second.invariant.0)) (omega (arith, c.loop-second.invariant.0)),
)
