-- What a pass of a queue of jobs knows, how each step changes that, and what holds between any two
-- steps.
use Rattle.std.specs.Prelude.{◌≡◌, ℕ, ◌+◌, ◌-◌, ◌<◌, ◌⊎◌, List, [], ◌∷◌, ◌++◌, length, map, sum_by}
use mathlib.Core.Option.{some}
use lib.ListN.{get_elem?}
use Rattle.mr_counts.specs.Numbers.{times, WeighAsBelow}
use Rattle.mr_counts.specs.Shares.{whole_share}
use Rattle.mr_table.specs.declared.view.JobView.{JobView}

-- ---- the views after each step

-- the first pass, once so many jobs were pushed
abbrev pub first_view : ℕ → JobView
first_view pushed = record { pushed = pushed; taken = []; left = whole_share - 1; parts = 1 }

-- a pass that pushed one job more
abbrev pub pushed_view : JobView → JobView
pushed_view v = record v { pushed = v.pushed + 1 }

-- a pass that took this job
abbrev pub took_view : JobView → ℕ → JobView
took_view v job = record v { taken = v.taken ++ job ∷ [] }

-- what a split leaves to a pass, and what the pass that is split off gets
abbrev pub kept_view : JobView → JobView
kept_view v = record v { left = v.left - 1 }

abbrev pub split_view : JobView → JobView
split_view v = record v { taken = []; left = 0; parts = 1 }

-- what a join makes of two passes, and what it leaves of the second: it is spent
abbrev pub joined_view : JobView → JobView → JobView
joined_view v w = record v {
  taken = v.taken ++ w.taken;
  left = v.left + w.left;
  parts = v.parts + w.parts;
}

abbrev pub spent_view : JobView
spent_view = record { pushed = 0; taken = []; left = 0; parts = 0 }

-- ---- the rule

-- a pass's part of the right to know that every job was taken
abbrev pub share_of : JobView → ℕ
share_of v = v.parts + v.left

-- it has all parts
abbrev pub IsWhole : JobView → Type 0
IsWhole v = share_of v ≡ whole_share

-- a spent pass has no part and took no job
pub record IsSpent (v : JobView) : Type 0 where
  pub no_part : share_of v ≡ 0
  pub no_job : v.taken ≡ []

-- any other has a part, and knows how many jobs were pushed
pub record IsLive (pushed : ℕ) (v : JobView) : Type 0 where
  pub has_part : 0 < v.parts
  pub knows_jobs : v.pushed ≡ pushed

-- The queue and what the passes took share the numbers below the number of jobs that were pushed.
pub record IsKept (pushed : ℕ) (items : List ℕ) (views : List JobView) : Type 0 where
  pub each_fits : (id : ℕ) (v : JobView) → get_elem? views id ≡ some v
      → IsSpent v ⊎ IsLive pushed v
  pub all_parts : sum_by share_of views ≡ whole_share
  pub all_jobs : WeighAsBelow (λ l. l) (items ∷ map (λ v. v.taken) views) pushed

-- the rule of the queue: so many jobs were pushed
abbrev pub Kept : List ℕ → List JobView → Type 0
Kept items views = (pushed : ℕ) × IsKept pushed items views

-- ---- what steps tell

-- the pass pushed a job
abbrev pub Pushed : JobView → ℕ → JobView → Type 0
Pushed v job w = w ≡ pushed_view v

-- the pass took this job, one of those that were pushed, which it had not taken before
pub record Took (v : JobView) (job : ℕ) (w : JobView) : Type 0 where
  pub view : w ≡ took_view v job
  pub pushed : job < v.pushed
  pub new : times job v.taken ≡ 0
  pub more : length v.taken < v.pushed

-- what a pass that has all parts did not take is in the queue
abbrev pub LeavesWith : JobView → List ℕ → Type 0
LeavesWith v items = IsWhole v → WeighAsBelow (λ l. l) (items ∷ v.taken ∷ []) v.pushed
