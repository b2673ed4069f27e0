-- What a seat of a bound knows, how each step changes that, and what holds between any two steps.
use Rattle.std.specs.Prelude.{◌≡◌, ℕ, ◌+◌, ◌-◌, ◌^◌, ◌<◌, ◌≤◌, ◌⊎◌, List, [], ◌∷◌, ◌++◌, length, sum_by, slice_index, min}
use mathlib.Core.Option.{some}
use lib.ListN.{get_elem?}
use Rattle.atomic_table.specs.Table.{State}
use Rattle.mr_counts.specs.Numbers.{beyond, WeighAsBelow}
use Rattle.mr_counts.specs.Shares.{whole_share}
use Rattle.mr_eq.specs.Problems.{Loss}
use Rattle.mr_bound.specs.Cost.{least_cost}
use Rattle.mr_bound.specs.declared.view.BoundView.{BoundView}

-- ---- the views after each step

-- the first seat of a bound
abbrev pub first_view : Loss → ℕ → ℕ → BoundView
first_view p chunks start = record {
  problem = p;
  chunks = chunks;
  draws = [];
  low = start;
  left = whole_share - 1;
  parts = 1;
}

-- a seat that has seen this cost, by a load or a fetch_min
abbrev pub with_low : BoundView → ℕ → BoundView
with_low v low = record v { low = low }

-- a seat that drew one number more
abbrev pub with_draw : BoundView → ℕ → BoundView
with_draw v n = record v { draws = v.draws ++ n ∷ [] }

-- what a split leaves to a seat, and what the seat that is split off gets
abbrev pub kept_view : BoundView → BoundView
kept_view v = record v { left = v.left - 1 }

abbrev pub split_view : BoundView → BoundView
split_view v = record v { draws = []; left = 0; parts = 1 }

-- what a join makes of two seats, and what it leaves of the second: it is spent
abbrev pub joined_view : BoundView → BoundView → BoundView
joined_view v w = record v {
  draws = v.draws ++ w.draws;
  low = min v.low w.low;
  left = v.left + w.left;
  parts = v.parts + w.parts;
}

-- a spent seat names no loss of any code
abbrev pub no_problem : Loss
no_problem = record {
  code = record { devices = 0; symbols_per_device = 0; columns = 0; rows = []; prices = [] };
  avail = 0;
  targets = 0;
}

abbrev pub spent_view : BoundView
spent_view = record {
  problem = no_problem;
  chunks = 0;
  draws = [];
  low = 0;
  left = 0;
  parts = 0;
}

-- ---- the rule

-- a spent seat has no part and no draw
pub record IsSpent (v : BoundView) : Type 0 where
  pub no_part : v.parts ≡ 0
  pub no_draw : v.draws ≡ []

-- Any other seat has a part. It names the problem and how many chunks there are, has seen no less
-- than the least cost known, and drew at most one number of no chunk for each of its parts.
pub record IsLive (p : Loss) (count cost : ℕ) (v : BoundView) : Type 0 where
  pub has_part : 0 < v.parts
  pub names_problem : v.problem ≡ p
  pub names_chunks : v.chunks ≡ count
  pub saw_cost : cost ≤ v.low
  pub few_beyond : beyond count v.draws ≤ v.parts

-- For the problem p and so many chunks these costs, draws and views fit each other: the least cost
-- known is one that the problem can have, each view fits, they have all parts together, and they
-- share the numbers below the number of draws.
pub record IsKept (p : Loss) (count cost drawn : ℕ) (views : List BoundView) : Type 0 where
  pub at_least : least_cost p ≤ cost
  pub each_fits : (id : ℕ) (v : BoundView) → get_elem? views id ≡ some v
      → IsSpent v ⊎ IsLive p count cost v
  pub all_parts : sum_by (λ v. v.parts + v.left) views ≡ whole_share
  pub all_draws : WeighAsBelow (λ v. v.draws) views drawn

-- the rule of the table: the words are the least cost known and the number of draws
abbrev pub Kept : {S : Type 0} → Loss → ℕ → State S BoundView → Type 0
Kept p count s = (length s.words ≡ 2) × (count < 2 ^ 32)
    × IsKept p count (slice_index s.words 0) (slice_index s.words 1) s.views
