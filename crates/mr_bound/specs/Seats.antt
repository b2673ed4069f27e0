-- What the clauses of a bound say of its seats.
use Rattle.std.specs.Prelude.{◌≡◌, ℕ}
use Rattle.mr_eq.specs.Problems.{Loss}
use Rattle.mr_bound.specs.declared.view.BoundView.{BoundView}
use Rattle.mr_bound.specs.declared.bound.Bound.{Bound}
use Rattle.mr_bound.specs.declared.bound.BoundSeat.{BoundSeat}

-- the problem that the bound was made for
abbrev pub problem_of : Bound → Loss
problem_of b = b.table.shared.key.problem.value

-- how many chunks it has
abbrev pub chunks_of : Bound → ℕ
chunks_of b = b.chunks

-- what the seat knows
abbrev pub seat_view : BoundSeat → BoundView
seat_view s = s.seat.me.0

-- the seat is of this bound, and names the bound's problem and how many chunks it has
pub record IsSeatOf (b : Bound) (s : BoundSeat) : Type 0 where
  pub table : s.seat.table_id ≡ b.table.shared.table_id
  pub problem : (seat_view s).problem ≡ problem_of b
  pub chunks : (seat_view s).chunks ≡ chunks_of b
