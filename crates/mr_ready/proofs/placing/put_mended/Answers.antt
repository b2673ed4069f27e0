use Rattle.std.proofs.Common.{◌<◌, sym, subst, ◌∙◌, arith}
use Rattle.mr_board.specs.declared.view.PassView.{PassView}
use Rattle.mr_counts.specs.Numbers.{times}
use Rattle.mr_ready.proofs.PlaceLaws.{holds-turn}
use Rattle.mr_ready.proofs.placing.put_mended.Goals as goal

pub put_stripe-requires-clause-seen : goal.put_stripe-requires-clause-seen
put_stripe-requires-clause-seen c =
    subst (λ (v : PassView). 0 < times c.loop-stripe.stripe v.seen) (sym c.loop-stripe.invariant.2) (c.requires.seen c.loop-stripe.stripe (omega (arith, c.loop-stripe-test.true, c.stripes-stripe-end.ensures.number)))

pub loop-stripe-preserved : goal.loop-stripe-preserved
loop-stripe-preserved c = (
  holds-turn c.args.board.now c.args.order.now.head c.args.order.now.plans c.loop-stripe.stripe c.print_head.new.image c.loop-stripe.image c.put_stripe.new.image c.loop-stripe.invariant.0 c.put_stripe.ensures.put,
  c.put_stripe.ensures.pass,
  c.put_stripe.ensures.same ∙ c.loop-stripe.invariant.2,
)
