use Rattle.std.proofs.Common.{arith}
use Rattle.mr_ops.proofs.LineLaws.{stripe-high, stripe-no_number, stripe-no_space, stripe-text}
use Rattle.mr_ops.proofs.lines.next_stripe.Goals as goal

pub returns-in_err-number-clause-none : goal.returns-in_err-number-clause-none
returns-in_err-number-clause-none c = rw c.from_residual.ensures (λ stripe more low is.
    stripe-no_space c.args.head.now c.bytes-within_the_limits.ensures.limits stripe low c.args.text.now more is c.in_err-number.ensures.pieces)

pub returns-in_err-stripe-clause-none : goal.returns-in_err-stripe-clause-none
returns-in_err-stripe-clause-none c = rw c.from_residual-in_err-stripe.ensures (λ stripe more low is.
    stripe-no_number c.args.head.now c.bytes-within_the_limits.ensures.limits stripe low c.args.text.now more is
    c.in_ok-number.number.now c.in_ok-number.rest.now c.in_ok-number.ensures.pieces c.in_err-stripe.ensures.value)

pub returns-then-stripe-stripes-clause-text : goal.returns-then-stripe-stripes-clause-text
returns-then-stripe-stripes-clause-text c =
    stripe-text c.args.text.now c.in_ok-number.number.now c.in_ok-number.rest.now c.in_ok-stripe.stripe
    c.in_ok-number.ensures.split.0 c.in_ok-number.ensures.split.1 c.in_ok-number.ensures.split.2 c.in_ok-stripe.ensures.read.1

pub returns-else-stripe-stripes-clause-none : goal.returns-else-stripe-stripes-clause-none
returns-else-stripe-stripes-clause-none c stripe more low is =
    stripe-high c.args.head.now c.bytes-within_the_limits.ensures.limits stripe low c.args.text.now more is
    c.in_ok-number.number.now c.in_ok-number.rest.now c.in_ok-number.ensures.pieces c.in_ok-stripe.stripe c.in_ok-stripe.ensures.value
    (omega (arith, c.if-stripe-stripes.false, c.stripes.ensures.number))
