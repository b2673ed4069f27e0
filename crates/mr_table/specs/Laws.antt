-- What the laws say of a queue of jobs.
use Rattle.std.specs.Prelude.{◌≡◌, ℕ, ◌<◌, ◌⊎◌, List, ◌∷◌, map, sum_by}
use mathlib.Core.Option.{some}
use lib.ListN.{get_elem?}
use Rattle.mr_counts.specs.Numbers.{AreShared}
use Rattle.mr_counts.specs.Shares.{whole_share}
use Rattle.mr_table.specs.declared.view.JobView.{JobView}
use Rattle.mr_table.specs.Rule.{IsSpent, share_of}

-- the queue and what the passes took share the numbers below the number of jobs that were pushed
abbrev pub AreTakenOnce : ℕ → List ℕ → List JobView → Type 0
AreTakenOnce pushed items views = AreShared (λ l. l) (items ∷ map (λ v. v.taken) views) pushed

-- the passes have all parts together, and each that is not spent has one at least
pub record HaveAllParts (views : List JobView) : Type 0 where
  pub together : sum_by share_of views ≡ whole_share
  pub each : (id : ℕ) (v : JobView) → get_elem? views id ≡ some v → IsSpent v ⊎ (0 < v.parts)
