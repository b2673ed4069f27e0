use Rattle.std.proofs.Common.{◌≡◌, ℕ, length}
use Rattle.mr_model.specs.Sets.{below}
use Rattle.mr_model.specs.Code.{row}
use Rattle.mr_model.proofs.Loops.{IsRest}
use Rattle.mr_image.specs.Images.{xor_symbols}
use Rattle.mr_encode.specs.Data.{symbols_in}
use Rattle.mr_encode.proofs.stripes.encode_symbol.Given as goal

-- the symbol is the XOR of those at the columns below n, and the others are left
abbrev pub invariant-loop-column : goal.invariant-loop-column
invariant-loop-column g l = (goal.iterator-loop-column g).can_next l.column-iterator × (goal.iterator-loop-column g).is_finite l.column-iterator
    × ((n : ℕ) × IsRest (row l.matrix l.i) n l.column-iterator
    × (l.symbol ≡ xor_symbols (length l.fn.symbol) (symbols_in (length l.fn.symbol) l.matrix.columns l.columns) (below n (row l.matrix l.i))))
