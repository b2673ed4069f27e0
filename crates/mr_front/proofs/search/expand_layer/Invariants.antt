use Rattle.std.proofs.Common.{◌≡◌}
use Rattle.mr_front.specs.Rows.{InRows, row_count}
use Rattle.mr_front.proofs.JoinLaws.{IsExpanded}
use Rattle.mr_front.proofs.search.expand_layer.Given as goal

abbrev pub invariant-loop-place : goal.invariant-loop-place
invariant-loop-place l = record {
  count : row_count l.rows ≡ row_count l.fn.rows;
  expanded : IsExpanded l.equations l.layer l.most l.place (InRows l.equations l.fn.rows) (InRows l.equations l.rows);
}
