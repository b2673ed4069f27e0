use Rattle.std.proofs.Common.{◌≡◌, ◌≤◌, ◌-◌, length, take}
use Rattle.mr_front.specs.Lists.{HasAdded}
use Rattle.mr_front.proofs.waiting.Waiting.add.Given as goal

abbrev pub invariant-loop-start : goal.invariant-loop-start
invariant-loop-start l = record {
  loss : l.self.problem ≡ l.fn.self.problem;
  in_range : l.start ≤ length l.masks;
  added : HasAdded l.fn.self.problem l.fn.self.lists l.self.lists l.level (take l.start l.masks);
}

abbrev pub decreases-loop-start : goal.decreases-loop-start
decreases-loop-start l = length l.masks - l.start
