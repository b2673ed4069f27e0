use Rattle.std.proofs.Common.{ap, ◌∙◌, sym, subst, ◌≡◌, ◌<◌, ◌^◌, length, bit_and}
use Rattle.mr_model.specs.Sets.{minus}
use Rattle.mr_calls.proofs.Survivors.{rest-apart, rest-below}
use Rattle.mr_calls.proofs.tests.values.singles_of.Goals as goal

pub new-problem-requires-clause-avail_below : goal.new-problem-requires-clause-avail_below
new-problem-requires-clause-avail_below g c = subst (λ s. s < 2 ^ length c.args.matrix.now.rows)
    (sym (c.minus.ensures ∙ ap (λ s. minus s c.args.lost) c.all-2.ensures)) (rest-below (length c.args.matrix.now.rows) c.args.lost)

pub new-problem-requires-clause-apart : goal.new-problem-requires-clause-apart
new-problem-requires-clause-apart g c = subst (λ s. bit_and s c.args.lost ≡ 0)
    (sym (c.minus.ensures ∙ ap (λ s. minus s c.args.lost) c.all-2.ensures)) (rest-apart (length c.args.matrix.now.rows) c.args.lost)
