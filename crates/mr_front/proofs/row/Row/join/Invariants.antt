use Rattle.std.proofs.Common.{◌≡◌}
use Rattle.mr_eq.specs.Equations.{equations_at}
use Rattle.mr_front.proofs.JoinLaws.{IsJoined}
use Rattle.mr_front.proofs.row.Row.join.Given as goal

abbrev pub invariant-loop-index : goal.invariant-loop-index
invariant-loop-index l = record {
  joined : IsJoined l.equations l.fn.self.lists.map l.self.lists.map l.mask l.span.from l.span.reach l.span.most (equations_at l.equations l.level) l.index l.children l.least l.above;
  late : l.self.late ≡ l.fn.self.late;
}
