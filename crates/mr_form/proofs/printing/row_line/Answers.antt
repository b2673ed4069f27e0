use Rattle.std.proofs.Common.{◌≡◌, ◌+◌, ◌++◌, [], ◌∷◌, length, ap, ap₂, sym, ◌∙◌, arith, lit<}
use Rattle.std.specs.Int.{bit_at}
use Rattle.mr_form.specs.MatrixText.{row_text}
use Rattle.mr_form.proofs.RowTexts.{length-row_text, row_text-more, bit-one, bit-zero}
use Rattle.mr_form.proofs.printing.row_line.Goals as goal
use Rattle.mr_form.proofs.printing.row_line.Goals.{then-contains, else-contains}

pub loop-column-init : goal.loop-column-init
unfolding row_text
loop-column-init c = c.new-line.ensures

pub push-requires : goal.push-requires
push-requires c = (lit< tt, omega (arith, ap length c.loop-column.invariant, length-row_text c.loop-column.column c.args.row))

pub loop-column-preserved : goal.loop-column-preserved
loop-column-preserved c =
    let bit : c.if-contains.bit ≡ 48 + bit_at c.args.row c.loop-column.column = elim c.if-contains.branch [
      | then-contains w ↦ w.bit-is ∙ bit-one _ _ (sym w.if-contains.ensures)
      | else-contains w ↦ w.bit-is ∙ bit-zero _ _ (sym w.if-contains.ensures)
    ] in
    c.push.ensures.items ∙ ap₂ (λ l b. l ++ b ∷ []) c.loop-column.invariant bit ∙ sym (row_text-more c.loop-column.column c.args.row)

pub push-requires-2 : goal.push-requires-2
push-requires-2 c = (lit< tt, omega (arith, ap length c.loop-column.invariant, length-row_text c.loop-column.column c.args.row))
