use Rattle.std.proofs.Common.{rules, ◌≡◌, ℕ, ◌+◌, ◌-◌, ◌*◌, ◌<◌, ◌≤◌, ◌∙◌, List, length, take, drop, sym, ap, subst, arith, length-take, length-drop}
use Rattle.mr_image.specs.Images.{Layout, stripe_symbols}
use Rattle.mr_encode.proofs.ColumnLaws.{place_end}
use Rattle.mr_encode.proofs.FrontLaws.{HasFront, front-all}
use Rattle.mr_gather.specs.Arrays.{gathered}
use Rattle.mr_gather.proofs.StripeLaws.{stripe-start, stripe-turn}
use Rattle.mr_gather.proofs.stripes.gather_stripe.Goals as goal

pub loop-symbol-init : goal.loop-symbol-init
loop-symbol-init g c = stripe-start _ _ _ _ _ _ _ _ _ _ (omega arith)

pub slice_bounds-gather_symbol-end : goal.slice_bounds-gather_symbol-end
slice_bounds-gather_symbol-end g c =
    let l : Layout = c.args.gathering.now.head in
    let long : length c.loop-symbol.stripe ≡ stripe_symbols l * c.bytes-size.result = c.loop-symbol.auto.stripe ∙ c.requires.stripe ∙ ap (λ k. stripe_symbols l * k) (sym c.bytes-size.ensures.number) in
    let low : c.from.result < stripe_symbols l = omega (arith, c.from.ensures) in
    let h : c.from.result * c.bytes-size.result + c.bytes-size.result ≤ length c.loop-symbol.stripe = place_end c.bytes-size.result (stripe_symbols l) (length c.loop-symbol.stripe) c.from.result long low in
    search rules

pub loop-symbol-preserved : goal.loop-symbol-preserved
loop-symbol-preserved g c =
    let l : Layout = c.args.gathering.now.head in
    let size : ℕ = c.bytes-size.result in
    let long : length c.loop-symbol.stripe ≡ stripe_symbols l * size = c.loop-symbol.auto.stripe ∙ c.requires.stripe ∙ ap (λ k. stripe_symbols l * k) (sym c.bytes-size.ensures.number) in
    let low : c.from.result < stripe_symbols l = omega (arith, c.from.ensures) in
    let h : c.from.result * size + size ≤ length c.loop-symbol.stripe = place_end size (stripe_symbols l) (length c.loop-symbol.stripe) c.from.result long low in
    let width : ℕ = c.from.result * size + size - c.from.result * size in
    let room : c.loop-symbol.symbol * size ≤ length c.loop-symbol.stripe = subst (λ k. k * size ≤ length c.loop-symbol.stripe) c.from.ensures (omega (arith, h)) in
    let piece : length c.gather_symbol.new.bytes ≡ size =
    omega (arith, h, c.gather_symbol.auto.bytes, length-take width (drop (c.from.result * size) c.loop-symbol.stripe), length-drop (c.from.result * size) c.loop-symbol.stripe) in
    stripe-turn g.E.Eye.sight g.E.Eye.faults l c.args.gathering.now.set c.args.gathering.now.first c.args.number size c.loop-symbol.symbol c.from.result width
    c.args.eyes.now c.loop-symbol.eyes c.gather_symbol.new.eyes c.loop-symbol.stripe c.gather_symbol.new.bytes c.loop-symbol.invariant
    c.in_ok-gather_symbol.ensures.taken c.in_ok-gather_symbol.ensures.made c.from.ensures room piece

pub returns-clause-made : goal.returns-clause-made
returns-clause-made g c devices told =
    let l : Layout = c.args.gathering.now.head in
    let all : c.loop-symbol.symbol ≡ stripe_symbols l = omega arith in
    front-all (gathered l devices c.args.gathering.now.set c.args.gathering.now.first c.args.number) c.bytes-size.result 0 (stripe_symbols l) c.loop-symbol.stripe
    (subst (λ k. HasFront (gathered l devices c.args.gathering.now.set c.args.gathering.now.first c.args.number) c.bytes-size.result 0 k c.loop-symbol.stripe) all (c.loop-symbol.invariant.made devices told))
    (c.loop-symbol.auto.stripe ∙ c.requires.stripe ∙ ap (λ k. stripe_symbols l * k) (sym c.bytes-size.ensures.number))
