use Rattle.mr_gather.proofs.StripeLaws.{IsStripe}
use Rattle.mr_gather.proofs.stripes.gather_stripe.Given as goal

-- the symbols so far are made
abbrev pub invariant-loop-symbol : goal.invariant-loop-symbol
invariant-loop-symbol g l = IsStripe g.E.Eye.sight g.E.Eye.faults l.gathering.head l.gathering.set l.gathering.first l.number l.size l.symbol l.initial.eyes l.eyes l.stripe
