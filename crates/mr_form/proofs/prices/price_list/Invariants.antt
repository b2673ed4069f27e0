use Rattle.mr_form.proofs.PriceLaws.{IsPriceSoFar}
use Rattle.mr_form.proofs.prices.price_list.Given as goal

-- the prices so far, and those of the words left
abbrev pub invariant-loop : goal.invariant-loop
invariant-loop l = IsPriceSoFar l.numbers l.left l.counter l.prices.items
