use Rattle.std.proofs.Common.{ℕ, ◌≡◌, ◌-◌, ◌*◌, ◌^◌, get_or, bit_or, sym, ap, ◌∙◌, arith}
use Rattle.mr_model.specs.Sets.{below}
use Rattle.mr_form.specs.Layouts.{layout_rows, layout_shape}
use Rattle.mr_form.proofs.LayoutLaws.{row-start, row-in, row-out, row-end, row-small}
use Rattle.mr_form.proofs.makers.Layout.row.Goals as goal
use Rattle.mr_form.proofs.makers.Layout.row.Goals.{then-has_column, else-has_column}

pub loop-column-init : goal.loop-column-init
loop-column-init c = row-start (get_or (layout_rows c.args.self c.args.p) c.args.symbol 0)

pub loop-column-preserved : goal.loop-column-preserved
loop-column-preserved c =
    let row = get_or (layout_rows c.args.self c.args.p) c.args.symbol 0 in
    elim c.if-has_column.branch [
      | then-has_column w ↦ w.row-is ∙ w.with-row.ensures ∙ ap (λ (v : ℕ). bit_or v (2 ^ c.loop-column.column)) c.loop-column.invariant ∙ row-in row c.loop-column.column (sym w.if-has_column.ensures)
      | else-has_column w ↦ w.row-is ∙ c.loop-column.invariant ∙ row-out row c.loop-column.column (sym w.if-has_column.ensures)
    ]

pub returns : goal.returns
returns c =
    let row = get_or (layout_rows c.args.self c.args.p) c.args.symbol 0 in
    let end : c.loop-column.column ≡ (layout_shape c.args.self c.args.p).columns = omega (arith, ap (λ d. d * (c.args.p - 1)) c.data_devices.ensures) in
    c.loop-column.invariant ∙ ap (λ n. below n row) end
    ∙ row-end row (layout_shape c.args.self c.args.p).columns (row-small c.args.self c.args.p c.args.symbol c.requires.size c.requires.symbol)
