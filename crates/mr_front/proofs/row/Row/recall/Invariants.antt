use Rattle.mr_front.proofs.JoinLaws.{IsRecalling}
use Rattle.mr_front.proofs.row.Row.recall.Given as goal

abbrev pub invariant-loop-place : goal.invariant-loop-place
invariant-loop-place l = IsRecalling l.equations l.level l.fn.self.lists.map l.fn.self.late.map l.self.lists.map l.self.late.map l.masks.items l.cost l.most l.place
