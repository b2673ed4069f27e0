use Rattle.std.proofs.Common.{true, false, sym, ◌∙◌}
use Rattle.mr_form.proofs.PriceLaws.{line-short, line-numbers, line-bad, line-told}
use Rattle.mr_form.proofs.prices.read_prices.Goals as goal

pub returns-in_err-name : goal.returns-in_err-name
returns-in_err-name c = rw c.from_residual.ensures (line-short c.args.devices c.args.line.now c.requires.some c.in_err-name.ensures.pieces)

pub returns-in_err-prices : goal.returns-in_err-prices
returns-in_err-prices c = rw c.from_residual-in_err-prices.ensures
    (line-bad c.args.devices c.args.line.now c.in_ok-name.name.now c.in_ok-name.numbers.now c.in_ok-name.ensures.pieces c.in_err-prices.ensures)

pub returns-then-is_told : goal.returns-then-is_told
returns-then-is_told c = (
  line-told c.args.devices c.args.line.now c.in_ok-name.name.now c.in_ok-name.numbers.now c.in_ok-name.ensures.pieces
      c.deref.result.now true c.in_ok-prices.ensures.0 (c.deref.ensures.0 ∙ c.in_ok-prices.ensures.1) c.if-is_told.ensures,
  c.in_ok-prices.ensures.1 ∙ sym (line-numbers c.args.devices c.args.line.now c.in_ok-name.name.now c.in_ok-name.numbers.now c.in_ok-name.ensures.pieces),
)

pub returns-else-is_told : goal.returns-else-is_told
returns-else-is_told c =
    line-told c.args.devices c.args.line.now c.in_ok-name.name.now c.in_ok-name.numbers.now c.in_ok-name.ensures.pieces
    c.deref.result.now false c.in_ok-prices.ensures.0 (c.deref.ensures.0 ∙ c.in_ok-prices.ensures.1) c.if-is_told.ensures
