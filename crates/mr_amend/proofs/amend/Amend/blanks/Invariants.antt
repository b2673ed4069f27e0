use Rattle.std.proofs.Common.{◌≡◌, ◌≤◌, length, vec_capacity, All}
use Rattle.mr_locks.specs.Rule.{blank_view}
use Rattle.mr_amend.specs.declared.caller.Caller.{Caller}
use Rattle.mr_amend.specs.Callers.{IsCallerOf, view}
use Rattle.mr_amend.proofs.amend.Amend.blanks.Given as goal

abbrev pub invariant-loop-caller : goal.invariant-loop-caller
invariant-loop-caller l = record {
  first : IsCallerOf l.self l.first;
  same : view l.first ≡ view l.initial.first;
  many : length l.callers.items ≡ l._caller;
  room : l.count ≤ vec_capacity l.callers;
  each : All (IsCallerOf l.self) l.callers.items;
  views : All (λ (c : Caller). view c ≡ blank_view (view l.initial.first)) l.callers.items;
}
