use Rattle.std.proofs.Common.{◌≡◌, take, length}
use Rattle.mr_form.specs.Layouts.{layout_rows}
use Rattle.mr_form.proofs.makers.Layout.matrix.Given as goal

-- the rows so far
abbrev pub invariant-loop-symbol : goal.invariant-loop-symbol
invariant-loop-symbol l = (take l.symbol l.rows ≡ take l.symbol (layout_rows l.self l.p)) × (length l.rows ≡ 128)
