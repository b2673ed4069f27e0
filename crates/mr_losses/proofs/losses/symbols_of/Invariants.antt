use Rattle.std.proofs.Common.{ℕ, ◌-◌, ◌/◌, ◌^◌, length}
use Rattle.mr_model.specs.Sets.{has}
use Rattle.mr_losses.proofs.LostSymbols.{IsFiltered}
use Rattle.mr_losses.proofs.losses.symbols_of.Given as goal

-- the symbols below n are done
abbrev pub invariant-loop-symbol : goal.invariant-loop-symbol
invariant-loop-symbol l = (goal.iterator-loop-symbol).can_next l.symbol-iterator × (goal.iterator-loop-symbol).is_finite l.symbol-iterator
    × ((n : ℕ) × IsFiltered (2 ^ length l.matrix.rows - 1) (λ i. has l.fn.devices (i / l.matrix.symbols_per_device)) n l.symbol-iterator l.symbols)
