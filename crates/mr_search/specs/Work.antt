-- What a worker begins with, and what it has done.
use Rattle.std.specs.Prelude.{◌≡◌, ℕ, ◌+◌, ◌<◌, ◌≤◌, ◌⊎◌, Bool, true, [], Option, Some, None, length, OnOk}
use Rattle.std.specs.List.{Contains}
use Rattle.mr_model.specs.Members.{members}
use Rattle.mr_eq.specs.Problems.{Loss}
use Rattle.mr_bound.specs.Cost.{least_cost}
use Rattle.mr_bound.specs.Seats.{seat_view, problem_of, chunks_of, IsSeatOf}
use Rattle.mr_bound.specs.declared.bound.Bound.{Bound}
use Rattle.mr_bound.specs.declared.bound.BoundSeat.{BoundSeat}
use Rattle.mr_front.specs.declared.layers.Layer.{Layer}
use Rattle.mr_front.specs.Rows.{InRows, LateIn, row_count}
use Rattle.mr_front.specs.Layers.{IsSomeChild, IsFirst, HasLost}
use Rattle.mr_search.specs.declared.worker.Worker.{Worker}
use Rattle.mr_search.specs.Layers.{IsFloored, Covers}

-- a seat's part of the right to know that every mask was drawn
abbrev pub share_in : Option BoundSeat → ℕ
share_in None = 0
share_in (Some s) = (seat_view s).parts + (seat_view s).left

abbrev pub share_of : Worker → ℕ
share_of w = share_in w.seat

-- The masks of this layer, which is below the last level, are drawn from this bound. Where the children are of the last
-- level, none of them costs less than the least cost.
pub record IsTask (b : Bound) (p : Loss) (l : Layer) (last : Bool) : Type 0 where
  pub chunks : chunks_of b ≡ length l.masks
  pub problem : p ≡ problem_of b
  pub level : l.level < length (members p.targets)
  pub floor : last ≡ true → IsFloored p l

-- it has no seat, and so many rows
pub record IsIdle (rows : ℕ) (w : Worker) : Type 0 where
  pub no_seat : w.seat ≡ None
  pub has_rows : row_count w.rows ≡ rows

-- it has a seat of this bound that drew nothing, and so many rows
pub record IsReady (b : Bound) (rows : ℕ) (w : Worker) : Type 0 where
  pub own : BoundSeat
  pub has_seat : w.seat ≡ Some own
  pub of_bound : IsSeatOf b own
  pub fresh : (seat_view own).draws ≡ []
  pub has_rows : row_count w.rows ≡ rows

-- It has a seat of this bound. Where it had memory, it was told that no mask is left, and the children of each mask that
-- it drew joined its rows.
pub record HasWorked (b : Bound) (l : Layer) (v w : Worker) : Type 0 where
  pub own : BoundSeat
  pub has_seat : w.seat ≡ Some own
  pub of_bound : IsSeatOf b own
  pub share : share_of w ≡ share_of v
  pub has_rows : row_count w.rows ≡ row_count v.rows
  pub ended : OnOk w.outcome ((n : ℕ) × (chunks_of b ≤ n) × Contains (seat_view own).draws n)
  pub stays : OnOk w.outcome ((i u : ℕ) → InRows (problem_of b) v.rows i u → InRows (problem_of b) w.rows i u)
  pub only : OnOk w.outcome ((i u : ℕ) → InRows (problem_of b) w.rows i u
      → InRows (problem_of b) v.rows i u ⊎ ((i ≡ l.level + 1) × IsSomeChild (problem_of b) l u))
  pub covers : OnOk w.outcome (Covers (problem_of b) l (least_cost (problem_of b)) (seat_view own).draws
      (InRows (problem_of b) w.rows (l.level + 1)))

-- what the end of the work tells of one worker
pub record IsDone (b : Bound) (l : Layer) (rows : ℕ) (w : Worker) : Type 0 where
  pub own : BoundSeat
  pub has_seat : w.seat ≡ Some own
  pub of_bound : IsSeatOf b own
  pub has_rows : row_count w.rows ≡ rows
  pub ended : OnOk w.outcome ((n : ℕ) × (chunks_of b ≤ n) × Contains (seat_view own).draws n)
  pub covers : OnOk w.outcome (Covers (problem_of b) l (least_cost (problem_of b)) (seat_view own).draws
      (InRows (problem_of b) w.rows (l.level + 1)))

-- Where it had memory, it has the first key of its rows. Nothing waits that did not wait, and all that costs at most
-- `most` still waits.
pub record HasKey (p : Loss) (most : ℕ) (v w : Worker) : Type 0 where
  pub seat : w.seat ≡ v.seat
  pub has_rows : row_count w.rows ≡ row_count v.rows
  pub lost : OnOk w.outcome (HasLost p most (InRows p v.rows) (InRows p w.rows))
  pub first : OnOk w.outcome (IsFirst p (InRows p w.rows) (LateIn w.rows) w.key)
