use Rattle.std.proofs.Common.{◌<◌, ◌≤◌, length, ⊎_elim, arith}
use Rattle.std.proofs.lemmas.Bool.{cases_lt}
use Rattle.mr_model.specs.Code.{symbol_prices}
use Rattle.mr_bits.proofs.MatrixLaws.{matrix-price}
use Rattle.mr_eq.proofs.PlaneSteps.{end-is, price-is, price-past, greatest-more}
use Rattle.mr_eq.proofs.planes.greatest_of.Goals as goal

pub loop-symbol-preserved : goal.loop-symbol-preserved
loop-symbol-preserved c =
    let m = c.args.matrix.now in
    let code = c.shape-shape.ensures.code in
    let is = c.shape-shape.ensures.shape in
    let n = c.loop-symbol.symbol in
    let «end» = end-is m code c.shape-shape.result is c.symbols-symbol-end.result c.symbols-symbol-end.ensures.count in
    let low : n < length m.rows = omega (arith, «end», c.loop-symbol-test.true) in
    let price = price-is m code c.shape-shape.result is n c.w.result c.price.result c.w.ensures low c.price.ensures in
    let most = matrix-price m code n in
    record {
      few = omega (arith, c.max-greatest.ensures, c.loop-symbol.invariant.few, most, price);
      high = greatest-more (symbol_prices m) n c.price.result c.loop-symbol.greatest c.max-greatest.result price (omega (arith, c.max-greatest.ensures)) (omega (arith, c.max-greatest.ensures)) c.loop-symbol.invariant.high;
    }

pub returns-clause-high : goal.returns-clause-high
returns-clause-high c =
    let m = c.args.matrix.now in
    let code = c.shape-shape.ensures.code in
    let is = c.shape-shape.ensures.shape in
    let n = c.loop-symbol.symbol in
    let «end» = end-is m code c.shape-shape.result is c.symbols-symbol-end.result c.symbols-symbol-end.ensures.count in
    λ i. ⊎_elim (λ (low : i < n). c.loop-symbol.invariant.high i low)
    (λ (high : n ≤ i). omega (arith, price-past m code c.shape-shape.result is i (omega (arith, high, «end», c.loop-symbol-test.false))))
    (cases_lt i n)
