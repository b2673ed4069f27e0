use Rattle.std.proofs.Common.{◌≡◌, ◌∙◌, ap, subst}
use Rattle.mr_choices.specs.Rotations.{IsFaultOf, undetermined_at}
use Rattle.mr_drill_run.proofs.ChoiceLaws.{found-none, none-undetermined}
use Rattle.mr_drill_run.proofs.choosing.problems_for.Goals as goal

pub unreachable-requires : goal.unreachable-requires
unreachable-requires c =
    found-none (undetermined_at c.args.code.now c.args.lost c.rotations.result) c.in-Err-Undetermined.field-0-0
    (ap (undetermined_at c.args.code.now c.args.lost) c.rotations.ensures
    ∙ none-undetermined c.args.head.now c.args.code.now c.args.lost c.shape-within_the_limits.ensures.code c.requires.version c.requires.determined)
    (subst (λ e. IsFaultOf (undetermined_at c.args.code.now c.args.lost c.rotations.result) e) c.in-Err-Undetermined.field-0-is c.in-Err-Undetermined.ensures.fault)
