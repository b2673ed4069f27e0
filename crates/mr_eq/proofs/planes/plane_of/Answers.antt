use Rattle.std.proofs.Common.{◌+◌, ◌<◌, ℕ, length, arith, subst, sym, ◌∙◌}
use Rattle.mr_model.specs.Code.{symbol_prices}
use Rattle.mr_eq.proofs.PlaneSteps.{IsSeen, end-is, price-is, seen-first, seen-with, seen-without, seen-all}
use Rattle.mr_eq.proofs.planes.plane_of.Goals as goal
use Rattle.mr_eq.proofs.planes.plane_of.Goals.{then-price-bit-eq1, else-price-bit-eq1}

pub loop-symbol-init : goal.loop-symbol-init
loop-symbol-init c = seen-first (symbol_prices c.args.matrix.now) c.args.bit

pub loop-symbol-preserved : goal.loop-symbol-preserved
loop-symbol-preserved c =
    let m = c.args.matrix.now in
    let code = c.shape-shape.ensures.code in
    let is = c.shape-shape.ensures.shape in
    let n = c.loop-symbol.symbol in
    let ps = symbol_prices m in
    let «end» = end-is m code c.shape-shape.result is c.symbols-symbol-end.result c.symbols-symbol-end.ensures.count in
    let low : n < length m.rows = omega (arith, «end», c.loop-symbol-test.true) in
    let price = price-is m code c.shape-shape.result is n c.w.result c.price.result c.w.ensures low c.price.ensures in
    elim c.if-price-bit-eq1.branch [
      | then-price-bit-eq1 w ↦ subst (λ (x : ℕ). IsSeen ps c.args.bit (n + 1) x) (sym (w.plane-is ∙ w.with-plane.ensures))
          (seen-with ps c.args.bit n c.loop-symbol.plane c.price.result c.loop-symbol.invariant price w.if-price-bit-eq1.true)
      | else-price-bit-eq1 w ↦ subst (λ (x : ℕ). IsSeen ps c.args.bit (n + 1) x) (sym w.plane-is)
          (seen-without ps c.args.bit n c.loop-symbol.plane c.price.result c.loop-symbol.invariant price w.if-price-bit-eq1.false)
    ]

pub returns : goal.returns
returns c =
    let m = c.args.matrix.now in
    let «end» = end-is m c.shape-shape.ensures.code c.shape-shape.result c.shape-shape.ensures.shape c.symbols-symbol-end.result c.symbols-symbol-end.ensures.count in
    seen-all m c.args.bit c.loop-symbol.symbol c.loop-symbol.plane (omega (arith, «end», c.loop-symbol-test.false)) c.loop-symbol.invariant
