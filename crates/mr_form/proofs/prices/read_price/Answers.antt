use Rattle.std.proofs.Common.{ap, sym, ◌∙◌}
use Rattle.mr_form.specs.MatrixText.{is_price}
use Rattle.mr_form.proofs.PriceLaws.{price-none, number-in}
use Rattle.mr_form.proofs.prices.read_price.Goals as goal

pub returns-in_err-number : goal.returns-in_err-number
returns-in_err-number c = rw c.from_residual.ensures (price-none c.args.word.now (sym c.in_err-number.ensures.value))

pub returns-then-is_price : goal.returns-then-is_price
returns-then-is_price c =
    let same = number-in c.args.word.now c.in_ok-number.number (sym c.in_ok-number.ensures.value) in
    (ap is_price same ∙ sym c.if-is_price.ensures, sym same)

pub returns-else-is_price : goal.returns-else-is_price
returns-else-is_price c =
    ap is_price (number-in c.args.word.now c.in_ok-number.number (sym c.in_ok-number.ensures.value)) ∙ sym c.if-is_price.ensures
