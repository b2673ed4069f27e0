use Rattle.std.proofs.Common.{◌∙◌, refl}
use Rattle.mr_io.proofs.Taking.{puts_err}
use Rattle.mr_plan.proofs.FourParts.{takes_item, part_item}
use Rattle.mr_late.specs.Tables.{row_text}
use Rattle.mr_late.proofs.printing.print_rows.Goals as goal

pub returns-in_err-print_row-clause-puts : goal.returns-in_err-print_row-clause-puts
returns-in_err-print_row-clause-puts g c =
    puts_err _ _ _ _ c.from_residual.ensures.0
    (part_item (row_text c.args.tabled.now.matrix c.args.tabled.now.budget) _ _ _ c.args.rows.now _ c.row-item.result _ c.row-item.is
    refl c.loop-row-test.true c.loop-row.invariant.taken c.in_err-print_row.ensures.puts.err)

pub loop-row-preserved : goal.loop-row-preserved
loop-row-preserved g c = record {
  taken = takes_item (row_text c.args.tabled.now.matrix c.args.tabled.now.budget) _ _ _ c.args.rows.now _ c.row-item.result _ c.row-item.is
      refl c.loop-row-test.true c.loop-row.invariant.taken c.in_ok-print_row.ensures.puts.ok;
  quiet = c.in_ok-print_row.ensures.cause.quiet ∙ c.loop-row.invariant.quiet;
}
