use Rattle.std.proofs.Common.{length, All}
use Rattle.mr_amend.specs.Callers.{IsDone}
use Rattle.mr_amend.proofs.Gathering.{Gathered}
use Rattle.mr_amend.proofs.amend.Amend.gather.Given as goal

abbrev pub invariant-loop-caller : goal.invariant-loop-caller
invariant-loop-caller l = record {
  done : All (IsDone l.self) l.callers.items;
  gathered : Gathered l.self l.fn.callers.items l.first l.callers.items;
}

abbrev pub decreases-loop-caller : goal.decreases-loop-caller
decreases-loop-caller l = length l.callers.items
