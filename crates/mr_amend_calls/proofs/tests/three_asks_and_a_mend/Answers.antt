use Rattle.std.proofs.Common.{ap, ◌∙◌, arith}
use Rattle.mr_history.specs.Histories.{Names}
use Rattle.mr_amend_calls.proofs.tests.three_asks_and_a_mend.Goals as goal

pub closed-closed-requires-clause-size : goal.closed-closed-requires-clause-size
closed-closed-requires-clause-size g c =
    ap (λ (n : Names). n.head.symbol_bytes) c.in_ok-terms.ensures.names ∙ c.in_ok-terms.ensures.size

pub symbol-requires-clause-number : goal.symbol-requires-clause-number
symbol-requires-clause-number g c = λ d.
    let told = c.in_ok-terms.ensures in
    let eight = told.size in
    let long = told.symbols in
    let one = told.stripes in
    let size = c.closed-closed.ensures.size 0 d (omega (arith, one)) in
    omega (arith, eight, long, size)
