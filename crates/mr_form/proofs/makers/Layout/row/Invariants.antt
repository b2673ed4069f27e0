use Rattle.std.proofs.Common.{◌≡◌, get_or}
use Rattle.mr_model.specs.Sets.{below}
use Rattle.mr_form.specs.Layouts.{layout_rows}
use Rattle.mr_form.proofs.makers.Layout.row.Given as goal

-- the columns so far
abbrev pub invariant-loop-column : goal.invariant-loop-column
invariant-loop-column l = l.row ≡ below l.column (get_or (layout_rows l.self l.p) l.symbol 0)
