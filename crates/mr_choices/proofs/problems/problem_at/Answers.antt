use Rattle.std.proofs.Common.{◌≡◌, ◌^◌, ◌<◌, length, bit_and, sym, ap, subst, ◌∙◌}
use Rattle.mr_model.specs.Code.{Code}
use Rattle.mr_model.specs.Rotations.{rotated}
use Rattle.mr_plan.specs.Plans.{survivors}
use Rattle.mr_choices.proofs.AtLaws.{below-rotated, survivors-rotated, survivors-are}
use Rattle.mr_eq.proofs.SingleLaws.{survivors-apart}
use Rattle.mr_choices.proofs.problems.problem_at.Goals as goal

pub new-requires-clause-avail_below : goal.new-requires-clause-avail_below
new-requires-clause-avail_below c =
    let are : c.minus-survivors.result ≡ survivors c.args.matrix.now c.args.lost = survivors-are c.args.matrix.now c.args.lost c.all.result c.minus-survivors.result c.minus-survivors.ensures c.all.ensures in
    subst (λ (m : Code). c.minus-survivors.result < 2 ^ length m.rows) (sym c.rotated.ensures.code)
    (subst (λ x. x < 2 ^ length (rotated c.args.matrix.now c.args.rotation).rows) (sym are) (survivors-rotated c.args.matrix.now c.args.lost c.args.rotation))

pub new-requires-clause-targets_below : goal.new-requires-clause-targets_below
new-requires-clause-targets_below c =
    subst (λ (m : Code). c.args.lost < 2 ^ length m.rows) (sym c.rotated.ensures.code) (below-rotated c.args.matrix.now c.args.lost c.args.rotation c.requires.lost)

pub new-requires-clause-apart : goal.new-requires-clause-apart
new-requires-clause-apart c =
    ap (λ x. bit_and x c.args.lost) (survivors-are c.args.matrix.now c.args.lost c.all.result c.minus-survivors.result c.minus-survivors.ensures c.all.ensures)
    ∙ survivors-apart c.args.matrix.now c.args.lost
