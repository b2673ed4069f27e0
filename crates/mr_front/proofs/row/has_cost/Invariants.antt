use Rattle.std.proofs.Common.{◌≢◌, ℕ, ◌<◌, get_or}
use Rattle.mr_front.specs.Waiting.{mask_cost}
use Rattle.mr_front.proofs.row.has_cost.Given as goal

abbrev pub invariant-loop-place : goal.invariant-loop-place
invariant-loop-place l = (k : ℕ) → k < l.place → mask_cost l.equations (get_or l.masks k 0) ≢ l.cost
