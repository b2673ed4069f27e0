use Rattle.std.proofs.Common.{◌≡◌, ◌≤◌, length, drop}
use Rattle.mr_front.specs.Lists.{HasAdded}
use Rattle.mr_front.proofs.waiting.Waiting.take_back.Given as goal

abbrev pub invariant-loop-left : goal.invariant-loop-left
invariant-loop-left l = record {
  loss : l.self.problem ≡ l.fn.self.problem;
  in_range : l.left ≤ length l.masks;
  taken : HasAdded l.fn.self.problem l.self.lists l.fn.self.lists l.level (drop l.left l.masks);
}

abbrev pub decreases-loop-left : goal.decreases-loop-left
decreases-loop-left l = l.left
