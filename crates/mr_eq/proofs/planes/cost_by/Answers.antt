use Rattle.std.proofs.Common.{◌≡◌, ◌+◌, ◌*◌, ◌^◌, ◌<◌, ℕ, length, arith, ap, ◌∙◌, pow-suc, add-one}
use Rattle.std.proofs.lemmas.List.{get_or_default}
use Rattle.mr_model.specs.Code.{symbol_prices}
use Rattle.mr_model.proofs.PlaneLaws.{cost-first, cost-next, cost-last, cost-one}
use Rattle.mr_eq.proofs.planes.cost_by.Goals as goal

pub loop-plane-init : goal.loop-plane-init
loop-plane-init c = record {
  few = omega arith;
  cost = λ m are. cost-first (symbol_prices m) c.args.planes.now c.args.set are;
}

pub loop-plane-preserved : goal.loop-plane-preserved
loop-plane-preserved c =
    let k = c.loop-plane.plane-index in
    let planes = c.args.planes.now in
    let few = c.members_in-in-loop-plane.ensures.few in
    let twice : 2 ^ (k + 1) ≡ 2 ^ k * 2 = ap (λ (n : ℕ). 2 ^ n) (add-one k) ∙ pow-suc 2 k in
    let low : k < length planes = omega (arith, c.loop-plane-test.true) in
    record {
      few = omega (arith, c.loop-plane.invariant.few, few, twice);
      cost = λ m are.
          ap (λ (n : ℕ). c.loop-plane.cost * 2 + n) c.members_in-in-loop-plane.ensures.number
          ∙ cost-next (symbol_prices m) planes c.args.set k c.loop-plane.cost c.plane-item.result are low (c.plane-item.is ∙ get_or_default planes k c.plane-item.result 0 low) (c.loop-plane.invariant.cost m are);
    }

pub returns : goal.returns
returns c = λ m are. cost-last m c.args.planes.now c.args.set c.loop-plane.plane-index c.loop-plane.cost (omega (arith, c.loop-plane-test.false)) (c.loop-plane.invariant.cost m are)

pub returns-then-planes-eq1 : goal.returns-then-planes-eq1
returns-then-planes-eq1 c = λ m are.
    let planes = c.args.planes.now in
    let one : length planes ≡ 1 = omega (arith, c.if-planes-eq1.true) in
    cost-one m planes c.args.set c.index-planes-0.result c.members_in.result are one
    (c.index-planes-0.is ∙ get_or_default planes 0 c.index-planes-0.result 0 (omega (arith, one))) c.members_in.ensures.number
