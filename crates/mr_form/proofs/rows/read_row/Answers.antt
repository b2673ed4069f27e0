use Rattle.std.proofs.Common.{◌+◌, sym, subst, ◌∙◌, arith}
use Rattle.mr_form.proofs.RowLaws.{IsRowSoFar, so_far-start, so_far-zero, so_far-one, so_far-end, other_byte, other_length, read-row, read-none}
use Rattle.mr_form.proofs.rows.read_row.Goals as goal
use Rattle.mr_form.proofs.rows.read_row.Goals.{in-48, in-49}

pub returns-then-line-columns : goal.returns-then-line-columns
returns-then-line-columns c = read-none c.args.columns c.args.line.now (other_length _ _ c.if-line-columns.true)

pub loop-column-init : goal.loop-column-init
loop-column-init c = so_far-start c.args.line.now

pub returns-in_default : goal.returns-in_default
returns-in_default c = read-none c.args.columns c.args.line.now (other_byte _ _ c.loop-column.column c.loop-column-test.true (λ e. omega (arith, e)) (λ e. omega (arith, e)))

pub loop-column-preserved : goal.loop-column-preserved
loop-column-preserved c = elim c.match-byte.branch [
  | in-48 w ↦ subst (λ r. IsRowSoFar c.args.line.now (c.loop-column.column + 1) r) (sym w.row-is) (so_far-zero _ _ _ c.loop-column-test.true w.in-48.is c.loop-column.invariant)
  | in-49 w ↦ subst (λ r. IsRowSoFar c.args.line.now (c.loop-column.column + 1) r) (sym (w.row-is ∙ w.with-row.ensures)) (so_far-one _ _ _ c.loop-column-test.true w.in-49.is c.loop-column.invariant)
]

pub returns : goal.returns
returns c =
    let end = so_far-end c.args.columns c.args.line.now c.loop-column.column c.loop-column.row (omega arith) (omega arith) c.loop-column.invariant in
    read-row c.args.columns c.args.line.now c.loop-column.row end.0 end.1
