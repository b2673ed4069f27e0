use Rattle.std.proofs.Common.{ℕ, ◌<◌}
use Rattle.std.specs.Prelude.{IfSome}
use Rattle.std.specs.List.{Contains}
use Rattle.mr_front.specs.CostLists.{list_in, AtMost}
use Rattle.mr_front.specs.Rows.{AtRow}
use Rattle.mr_front.proofs.rows.Rows.least_above.Given as goal

abbrev pub invariant-loop-place : goal.invariant-loop-place
invariant-loop-place l = record {
  lists : (i c u : ℕ) → i < l.place → AtRow (λ r. Contains (list_in r.lists.map c) u) l.self.rows.items i → l.above < c → AtMost l.least c;
  late : (i c u : ℕ) → i < l.place → AtRow (λ r. Contains (list_in r.late.map c) u) l.self.rows.items i → l.above < c → AtMost l.least c;
  above : IfSome l.least (λ k. l.above < k);
}
