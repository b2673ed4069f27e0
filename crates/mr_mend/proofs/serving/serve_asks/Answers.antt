use Rattle.std.proofs.Common.{◌*◌, ◌+◌, ◌≤◌, length, refl, ap, arith}
use Rattle.std.proofs.lemmas.Nat.{row_fits}
use Rattle.mr_plan.specs.PlanLists.{recipes_at}
use Rattle.mr_mend.proofs.Serves.{served-start, served-turn}
use Rattle.mr_mend.proofs.serving.serve_asks.Goals as goal

pub loop-k-init : goal.loop-k-init
loop-k-init g c =
    served-start c.args.rebuild.now.head.now (recipes_at c.args.rebuild.now.plans.now) c.args.rebuild.now.asks.now (g.E.Eye.sight c.args.eye.now) (g.E.Eye.faults c.args.eye.now) c.args.image.now c.args.replies.now

pub loop-k-preserved : goal.loop-k-preserved
loop-k-preserved g c =
    let fits : c.loop-k.k * c.bytes-size.result + c.bytes-size.result ≤ length c.loop-k.replies =
    omega (arith, row_fits c.loop-k.k c.bytes-size.result (length c.args.rebuild.now.asks.now) c.args.rebuild.now.head.now.symbol_bytes (omega arith) (omega arith)) in
    served-turn c.args.rebuild.now.head.now (recipes_at c.args.rebuild.now.plans.now) c.args.rebuild.now.asks.now (g.E.Eye.sight c.args.eye.now) (g.E.Eye.faults c.args.eye.now) c.args.image.now
    c.loop-k.k _ _ (g.E.Eye.faults c.loop-k.eye) (g.E.Eye.faults c.serve_ask.new.eye) (g.E.Eye.sight c.loop-k.eye) (g.E.Eye.sight c.serve_ask.new.eye)
    _ _ c.loop-k.replies c.serve_ask.new.reply c.loop-k.invariant (omega arith) refl (ap (λ n. c.loop-k.k * n) c.bytes-size.ensures.number) (omega arith) (omega (arith, fits))
    c.in_ok-serve_ask.ensures.served c.in_ok-serve_ask.ensures.taken c.in_ok-serve_ask.ensures.cause.quiet
