use Rattle.std.proofs.Common.{◌≡◌}
use Rattle.mr_amend.specs.Callers.{IsCallerOf, share, view}
use Rattle.mr_amend_calls.proofs.tests.ask_all.Given as goal

abbrev pub invariant-loop-number : goal.invariant-loop-number
invariant-loop-number g l = record {
  caller : IsCallerOf l.amend l.caller;
  same : share (view l.caller) ≡ share (view l.initial.caller);
}
