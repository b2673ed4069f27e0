use Rattle.mr_choices.proofs.ChosenLaws.{ChosenBelow}
use Rattle.mr_choices.proofs.choosing.plans_of.Given as goal

abbrev pub invariant-loop-rotation : goal.invariant-loop-rotation
invariant-loop-rotation g l = ChosenBelow l.fn.matrix l.fn.lost l.fn.choosing.budget l.rotation l.list.items l.lines.items
