use Rattle.std.proofs.Common.{◌≡◌}
use Rattle.mr_choices.specs.Chosen.{singles_chosen}
use Rattle.mr_choices.proofs.singles.singles_of.Given as goal

-- the rotations before this one have their single equations
abbrev pub invariant-loop-rotation : goal.invariant-loop-rotation
invariant-loop-rotation g l = l.list.items ≡ singles_chosen l.fn.matrix l.fn.lost l.fn.choosing.budget l.rotation
