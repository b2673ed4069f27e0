use Rattle.std.proofs.Common.{◌≡◌, ◌≤◌, vec_len}
use Rattle.std.specs.Prelude.{vec_capacity}
use Rattle.mr_drill_run_calls.proofs.tests.gates.zeros.Given as goal

-- there is room for all
abbrev pub invariant-loop : goal.invariant-loop
invariant-loop l = record { count : vec_len l.counts ≡ l.counter; room : 64 ≤ vec_capacity l.counts }
