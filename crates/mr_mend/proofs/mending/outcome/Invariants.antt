use Rattle.std.proofs.Common.{◌≡◌, ℕ, ◌<◌, false}
use Rattle.std.specs.Prelude.{slice_index_or}
use Rattle.mr_mend.specs.declared.workers.Worker.{Worker}
use Rattle.mr_mend.proofs.mending.outcome.Given as goal

abbrev pub invariant-loop-worker : goal.invariant-loop-worker
invariant-loop-worker g l = (k : ℕ) (d : Worker g.row.E.Denot) → k < l.worker-index → (slice_index_or l.workers k d).failed ≡ false
