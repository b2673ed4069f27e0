use Rattle.std.proofs.Common.{◌+◌, length}
use Rattle.mr_model.specs.Members.{members}
use Rattle.mr_search.proofs.HireLaws.{IsHiring}
use Rattle.mr_search.proofs.layers.hire.Given as goal

abbrev pub invariant-loop-place : goal.invariant-loop-place
invariant-loop-place l = IsHiring l.task.bound.now (length (members l.task.equations.now.targets) + 1) l.fn.crew l.crew l.place l.seat
