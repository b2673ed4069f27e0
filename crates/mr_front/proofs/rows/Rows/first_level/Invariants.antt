use Rattle.mr_front.proofs.ScanLaws.{IsScanned}
use Rattle.mr_front.proofs.rows.Rows.first_level.Given as goal

abbrev pub invariant-loop-level : goal.invariant-loop-level
invariant-loop-level l = IsScanned l.equations l.most l.fn.self l.self l.cost l.level
