use Rattle.std.proofs.Common.{◌≡◌, ℕ, ◌<◌, ◌⊎◌, None}
use Rattle.std.specs.Prelude.{slice_index_or}
use Rattle.mr_search.specs.declared.worker.Worker.{Worker}
use Rattle.mr_search.specs.Crew.{IsKeyAtMost}
use Rattle.mr_search.proofs.crew.least_key.Given as goal

abbrev pub invariant-loop-place : goal.invariant-loop-place
invariant-loop-place l = record {
  lower : (i : ℕ) (d : Worker) → i < l.place → IsKeyAtMost l.least (slice_index_or l.crew i d).key;
  one : (l.least ≡ None) ⊎ ((i : ℕ) × (i < l.place) × ((d : Worker) → (slice_index_or l.crew i d).key ≡ l.least));
}
