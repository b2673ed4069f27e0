use Rattle.std.proofs.Common.{◌≡◌, ℕ}
use Rattle.mr_model.specs.Sets.{below}
use Rattle.mr_model.specs.Code.{cost}
use Rattle.mr_model.proofs.Loops.{IsRest}
use Rattle.mr_bits.proofs.matrices.Matrix.cost.Given as goal

-- the total is what the members below n cost, and the others are left
abbrev pub invariant-loop-member : goal.invariant-loop-member
invariant-loop-member l = (goal.iterator-loop-member).can_next l.member-iterator × (goal.iterator-loop-member).is_finite l.member-iterator
    × ((n : ℕ) × IsRest l.fn.set n l.member-iterator × (l.total ≡ cost l.self (below n l.fn.set)))
