use Rattle.std.proofs.Common.{◌≡◌, ℕ, arith, subst}
use Rattle.mr_image.specs.Images.{Layout}
use Rattle.mr_io.specs.Taking.{Takes}
use Rattle.mr_gather.specs.Arrays.{gathered}
use Rattle.mr_gather.proofs.SlotLaws.{fails-after, tells-kept}
use Rattle.mr_gather.proofs.SendLaws.{sent, sent-front, sent-turn}
use Rattle.mr_gather.proofs.gathering.gather.Goals as goal

pub returns-in-Err-clause-front : goal.returns-in-Err-clause-front
returns-in-Err-clause-front g c devices told =
    let l : Layout = c.args.gathering.now.head in
    sent-front l (gathered l devices c.args.gathering.now.set c.args.gathering.now.first) (g.K.Sink.held c.args.out.now) (g.K.Sink.held c.loop-number.out) (g.K.Sink.held c.put_stripe.new.out) c.loop-number.number (omega arith)
    (c.loop-number.invariant.put devices told) (c.in-Err.ensures.front devices (tells-kept g.E.Eye.sight g.E.Eye.faults devices _ c.args.eyes.now c.loop-number.eyes c.loop-number.invariant.took told))

pub returns-in-Err-clause-read : goal.returns-in-Err-clause-read
returns-in-Err-clause-read g c h =
    fails-after g.E.Eye.sight g.E.Eye.faults _ c.args.eyes.now c.loop-number.eyes c.put_stripe.new.eyes c.loop-number.invariant.took (c.in-Err.ensures.read h)

pub loop-number-preserved : goal.loop-number-preserved
loop-number-preserved g c =
    sent-turn g.E.Eye.sight g.E.Eye.faults c.args.gathering.now.head c.args.gathering.now.set c.args.gathering.now.first c.loop-number.number c.args.eyes.now c.loop-number.eyes c.put_stripe.new.eyes
    (g.K.Sink.held c.args.out.now) (g.K.Sink.held c.loop-number.out) (g.K.Sink.held c.put_stripe.new.out) (g.K.Sink.faults c.args.out.now) (g.K.Sink.faults c.loop-number.out) (g.K.Sink.faults c.put_stripe.new.out)
    c.loop-number.invariant c.in-Ok.ensures.taken c.in-Ok.ensures.put c.in-Ok.ensures.quiet

pub returns-clause-put : goal.returns-clause-put
returns-clause-put g c devices told =
    let l : Layout = c.args.gathering.now.head in
    let all : c.loop-number.number ≡ l.stripes = omega arith in
    subst (λ n. Takes (g.K.Sink.held c.args.out.now) (g.K.Sink.held c.loop-number.out) (sent l (gathered l devices c.args.gathering.now.set c.args.gathering.now.first) n)) all (c.loop-number.invariant.put devices told)
