use Rattle.std.proofs.Common.{◌≡◌, ◌+◌, ◌-◌, ◌≤◌}
use Rattle.mr_model.specs.Search.{least_cost}
use Rattle.mr_eq.specs.Problems.{search_for}
use Rattle.mr_front.specs.Rows.{InRows, row_count}
use Rattle.mr_front.proofs.SearchSteps.{IsSearched}
use Rattle.mr_front.proofs.search.search_layers.Given as goal

abbrev pub invariant-loop-rows : goal.invariant-loop-rows
invariant-loop-rows l = record {
  searched : IsSearched (search_for l.equations) (InRows l.equations l.rows) l.work;
  within : l.work ≤ l.budget;
  high : least_cost (search_for l.equations) ≤ l.most;
  count : row_count l.rows ≡ l.levels + 1;
}

abbrev pub decreases-loop-rows : goal.decreases-loop-rows
decreases-loop-rows l = l.budget - l.work
