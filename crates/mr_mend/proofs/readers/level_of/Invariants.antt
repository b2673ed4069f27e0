use Rattle.std.proofs.Common.{◌≢◌, ℕ, ◌<◌}
use Rattle.std.specs.Prelude.{slice_index_or}
use Rattle.mr_model.specs.Plans.{Recipe}
use Rattle.mr_mend.proofs.readers.level_of.Given as goal

abbrev pub invariant-loop-level : goal.invariant-loop-level
invariant-loop-level l = (k : ℕ) (d : Recipe) → k < l.level → (slice_index_or l.recipes k d).symbol ≢ l.symbol
