use Rattle.std.proofs.Common.{◌-◌, ◌+◌, ◌≤◌, All, length}
use Rattle.mr_model.specs.Members.{members}
use Rattle.mr_eq.specs.Problems.{search_for}
use Rattle.mr_bound.specs.Cost.{least_cost}
use Rattle.mr_front.proofs.SearchSteps.{IsSearched}
use Rattle.mr_search.specs.Crew.{InCrew}
use Rattle.mr_search.specs.Work.{IsIdle}
use Rattle.mr_search.proofs.choices.search_with.Given as goal

abbrev pub invariant-loop-key : goal.invariant-loop-key
invariant-loop-key g l = record {
  searched : IsSearched (search_for l.inputs.equations.now) (InCrew l.inputs.equations.now l.crew) l.work;
  within : l.work ≤ l.budget;
  least : least_cost l.inputs.equations.now ≤ l.least;
  idle : All (IsIdle (length (members l.inputs.equations.now.targets) + 1)) l.crew;
}

abbrev pub decreases-loop-key : goal.decreases-loop-key
decreases-loop-key g l = l.budget - l.work
