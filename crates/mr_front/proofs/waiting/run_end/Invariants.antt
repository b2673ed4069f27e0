use Rattle.std.proofs.Common.{List, length, ◌-◌, ◌≡◌, ◌<◌, ◌≤◌, slice_index, ℕ}
use Rattle.mr_eq.specs.Problems.{Loss}
use Rattle.mr_front.specs.Waiting.{mask_cost}
use Rattle.mr_front.proofs.waiting.run_end.Given as goal

-- the masks from the start on cost as much as the first of them
pub record IsRun (p : Loss) (masks : List ℕ) (start «end» : ℕ) : Type 0 where
  pub after : start < «end»
  pub inside : «end» ≤ length masks
  pub same : (k : ℕ) → start ≤ k → k < «end» → mask_cost p (slice_index masks k) ≡ mask_cost p (slice_index masks start)

abbrev pub invariant-loop-end : goal.invariant-loop-end
invariant-loop-end l = record {
  run : IsRun l.problem l.masks l.start l.«end»;
  cost_is : l.cost ≡ mask_cost l.problem (slice_index l.masks l.start);
}

abbrev pub decreases-loop-end : goal.decreases-loop-end
decreases-loop-end l = length l.masks - l.«end»
