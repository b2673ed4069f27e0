use Rattle.std.proofs.Common.{◌≡◌, ℕ}
use Rattle.mr_model.specs.Code.{dropped, all_sums}
use Rattle.mr_model.proofs.Loops.{IsRest}
use Rattle.mr_model.proofs.Nulls.{generators_below}
use Rattle.mr_null.proofs.basis.Basis.nulls.Given as goal

-- the list is that of the dropped members below n, and the others are left
abbrev pub invariant-loop-symbol : goal.invariant-loop-symbol
invariant-loop-symbol l = (goal.iterator-loop-symbol).can_next l.symbol-iterator × (goal.iterator-loop-symbol).is_finite l.symbol-iterator
    × ((n : ℕ) × IsRest (dropped l.self.code l.self.set) n l.symbol-iterator × (l.masks.items ≡ all_sums (generators_below l.self.code l.self.set n)))
