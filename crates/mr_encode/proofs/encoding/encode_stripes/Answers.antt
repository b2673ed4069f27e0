use Rattle.std.proofs.Common.{◌≡◌, ◌*◌, ◌∙◌, length, ap, arith}
use Rattle.std.specs.Prelude.{vec_capacity, vec_len}
use Rattle.mr_encode.proofs.BodyLaws.{progress-room, progress-data, progress-turn, progress-made, stripe_size}
use Rattle.mr_encode.proofs.encoding.encode_stripes.Goals as goal

pub encode_stripe-requires-clause-data : goal.encode_stripe-requires-clause-data
encode_stripe-requires-clause-data g c =
    progress-data c.args.encoder.now.head.now c.args.encoder.now.matrix.now _ _ _ _ _ _ _ _ _ _ c.loop-number.invariant (omega arith) c.requires.eye

pub append-requires : goal.append-requires
append-requires g c =
    let width : length c.encode_stripe.new.stripe ≡ stripe_size c.args.encoder.now.head.now c.args.encoder.now.matrix.now =
    c.encode_stripe.auto.stripe ∙ c.loop-number.auto.stripe ∙ c.requires.stripe ∙ ap (λ k. k * c.args.encoder.now.head.now.symbol_bytes) c.requires.rows in
    progress-room c.args.encoder.now.head.now c.args.encoder.now.matrix.now _ _ _ _ _ _ _ _ _ _ c.loop-number.invariant (omega arith) _ width

pub loop-number-preserved : goal.loop-number-preserved
loop-number-preserved g c =
    let width : length c.encode_stripe.new.stripe ≡ stripe_size c.args.encoder.now.head.now c.args.encoder.now.matrix.now =
    c.encode_stripe.auto.stripe ∙ c.loop-number.auto.stripe ∙ c.requires.stripe ∙ ap (λ k. k * c.args.encoder.now.head.now.symbol_bytes) c.requires.rows in
    progress-turn c.args.encoder.now.head.now c.args.encoder.now.matrix.now _ _ _ _ _ _ _ _ _ _ c.loop-number.invariant (omega arith)
    (g.E.Eye.sight c.encode_stripe.new.eye) (g.E.Eye.faults c.encode_stripe.new.eye) (vec_len c.append.new.image) (vec_capacity c.append.new.image) c.encode_stripe.new.stripe c.append.new.image.items
    c.requires.rows c.in_ok-encode_stripe.ensures.made c.in_ok-encode_stripe.ensures.taken c.in_ok-encode_stripe.ensures.cause.quiet
    c.append.ensures.items c.append.ensures.len width c.append.ensures.capacity

pub returns-clause-body : goal.returns-clause-body
returns-clause-body g c =
    progress-made c.args.encoder.now.head.now c.args.encoder.now.matrix.now _ _ _ _ _ _ _ _ _ _ c.loop-number.invariant (omega arith)
