use Rattle.std.proofs.Common.{◌≡◌, ℕ, true, false, map, subst, ◌∙◌, arith}
use Rattle.mr_form.specs.MatrixText.{are_prices, number_in, words}
use Rattle.mr_form.proofs.PriceLaws.{price-last, price-last_bad}
use Rattle.mr_form.proofs.prices.price_list.Goals as goal

pub returns-in_err-last : goal.returns-in_err-last
returns-in_err-last c =
    let done : c.loop.counter ≡ c.args.devices = omega arith in
    let bad = price-last_bad c.args.numbers.now c.loop.left.now c.loop.counter c.loop.prices.items c.loop.invariant c.in_err-last.ensures in
    rw c.from_residual-in_err-last.ensures (subst (λ (n : ℕ). are_prices n (map number_in (words c.args.numbers.now)) ≡ false) done bad)

pub returns : goal.returns
returns c =
    let done : c.loop.counter ≡ c.args.devices = omega arith in
    let last = price-last c.args.numbers.now c.loop.left.now c.loop.counter c.loop.prices.items c.loop.invariant c.in_ok-last.last c.in_ok-last.ensures.0 c.in_ok-last.ensures.1 in
    (subst (λ (n : ℕ). are_prices n (map number_in (words c.args.numbers.now)) ≡ true) done last.0, c.push-2.ensures.items ∙ last.1)
