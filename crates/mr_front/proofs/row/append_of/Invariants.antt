use Rattle.std.proofs.Common.{◌≡◌, ◌++◌, take}
use Rattle.std.specs.Prelude.{◌==◌, filter}
use Rattle.mr_front.specs.Waiting.{mask_cost}
use Rattle.mr_front.proofs.row.append_of.Given as goal

abbrev pub invariant-loop-place : goal.invariant-loop-place
invariant-loop-place l = l.list.items ≡ l.fn.list.items ++ filter (λ u. mask_cost l.equations u == l.cost) (take l.place l.masks)
