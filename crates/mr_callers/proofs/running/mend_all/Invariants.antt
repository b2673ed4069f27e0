use Rattle.std.proofs.Common.{length}
use Rattle.mr_amend.specs.Callers.{view}
use Rattle.mr_callers.specs.Jobs.{HasMendedSome}
use Rattle.mr_callers.proofs.running.mend_all.Given as goal

abbrev pub invariant-loop-done : goal.invariant-loop-done
invariant-loop-done g l = HasMendedSome l.fn.task.amend.now (view l.fn.caller) l.caller

abbrev pub decreases-loop-done : goal.decreases-loop-done
decreases-loop-done g l = length (view l.caller).mends
