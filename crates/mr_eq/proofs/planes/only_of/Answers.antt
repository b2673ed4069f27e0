use Rattle.std.proofs.Common.{◌≡◌, ◌∙◌, length, bit_and, refl, arith}
use Rattle.std.specs.Prelude.{count_ones}
use Rattle.std.proofs.lemmas.List.{get_or_default}
use Rattle.mr_model.proofs.PlaneLaws.{cost-one}
use Rattle.mr_eq.proofs.planes.only_of.Goals as goal

pub returns-then-planes-eq1 : goal.returns-then-planes-eq1
returns-then-planes-eq1 c _ m u are =
    let planes = c.args.planes.now in
    let one : length planes ≡ 1 = omega (arith, c.if-planes-eq1.true) in
    cost-one m planes u c.index-planes-0.result (count_ones (bit_and u c.index-planes-0.result)) are one
    (c.index-planes-0.is ∙ get_or_default planes 0 c.index-planes-0.result 0 (omega (arith, one))) refl
