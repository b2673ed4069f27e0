use Rattle.std.proofs.Common.{List, sym, subst, arith}
use Rattle.mr_front.specs.declared.row.Row.{Row}
use Rattle.mr_front.proofs.RowsLaws.{RowsNone, rows-first, rows-more}
use Rattle.mr_front.proofs.rows.Rows.new.Goals as goal

pub loop-init : goal.loop-init
loop-init c = record { none = subst (λ (rs : List Row). RowsNone rs) (sym c.new-rows.ensures.items) rows-first; count = omega (arith, c.new-rows.ensures.len) }

pub loop-preserved : goal.loop-preserved
loop-preserved c = record {
  none = subst (λ (rs : List Row). RowsNone rs) (sym c.in_ok-push.ensures.items)
      (rows-more c.loop.rows.items c.new.result c.loop.invariant.none c.new.ensures.lists c.new.ensures.late);
  count = omega (arith, c.in_ok-push.ensures.len, c.loop.invariant.count);
}

pub returns-clause-count : goal.returns-clause-count
returns-clause-count c = omega (arith, c.loop.invariant.count, c.loop.auto.counter-end, c.loop-test.false, c.from-end.ensures)

pub returns-clause-none : goal.returns-clause-none
returns-clause-none c = c.loop.invariant.none
