use Rattle.std.proofs.Common.{ap, ◌∙◌, sym, subst, ◌<◌, ◌^◌, length, ◌≡◌, bit_and}
use Rattle.mr_model.specs.Sets.{minus}
use Rattle.mr_eq.proofs.SingleLaws.{survivors-apart, survivors-below}
use Rattle.mr_losses.proofs.losses.problem_of.Goals as goal

pub new-requires-clause-avail_below : goal.new-requires-clause-avail_below
new-requires-clause-avail_below c = subst (λ s. s < 2 ^ length c.args.matrix.now.rows)
    (sym (c.minus.ensures ∙ ap (λ s. minus s c.args.lost) c.all.ensures)) (survivors-below c.args.matrix.now c.args.lost)

pub new-requires-clause-apart : goal.new-requires-clause-apart
new-requires-clause-apart c = subst (λ s. bit_and s c.args.lost ≡ 0)
    (sym (c.minus.ensures ∙ ap (λ s. minus s c.args.lost) c.all.ensures)) (survivors-apart c.args.matrix.now c.args.lost)
