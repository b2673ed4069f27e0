use Rattle.std.proofs.Common.{◌≡◌, ℕ, ◌+◌, ◌-◌, ◌≤◌, ◌⊎◌}
use Rattle.mr_bound.specs.Cost.{least_cost}
use Rattle.mr_counts.specs.Numbers.{next_above}
use Rattle.mr_bound.specs.Seats.{seat_view, chunks_of, IsSeatOf}
use Rattle.mr_front.specs.Rows.{InRows, row_count}
use Rattle.mr_front.specs.Layers.{IsSomeChild}
use Rattle.mr_search.specs.Layers.{Covers}
use Rattle.mr_search.proofs.worker.draw_all.Given as goal

abbrev pub invariant-loop-number : goal.invariant-loop-number
invariant-loop-number g l = record {
  seat : IsSeatOf l.task.bound.now l.seat;
  open_yet : next_above (seat_view l.seat).draws ≤ chunks_of l.task.bound.now;
  share : (seat_view l.seat).parts + (seat_view l.seat).left ≡ (seat_view l.fn.seat).parts + (seat_view l.fn.seat).left;
  count : row_count l.rows ≡ row_count l.fn.rows;
  stays : (i u : ℕ) → InRows l.task.equations.now l.fn.rows i u → InRows l.task.equations.now l.rows i u;
  only : (i u : ℕ) → InRows l.task.equations.now l.rows i u → InRows l.task.equations.now l.fn.rows i u ⊎ ((i ≡ l.task.layer.now.level + 1) × IsSomeChild l.task.equations.now l.task.layer.now u);
  covers : Covers l.task.equations.now l.task.layer.now (least_cost l.task.equations.now) (seat_view l.seat).draws (InRows l.task.equations.now l.rows (l.task.layer.now.level + 1));
}

abbrev pub decreases-loop-number : goal.decreases-loop-number
decreases-loop-number g l = chunks_of l.task.bound.now - next_above (seat_view l.seat).draws
