use Rattle.std.proofs.Common.{◌≡◌, vec_len}
use Rattle.mr_front.proofs.RowsLaws.{RowsNone}
use Rattle.mr_front.proofs.rows.Rows.new.Given as goal

abbrev pub invariant-loop : goal.invariant-loop
invariant-loop l = record { none : RowsNone l.rows.items; count : vec_len l.rows ≡ l.counter }
