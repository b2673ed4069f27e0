use Rattle.std.proofs.Common.{◌-◌}
use Rattle.mr_front.proofs.ScanLaws.{IsScanned}
use Rattle.mr_front.proofs.rows.Rows.first_key.Given as goal

abbrev pub invariant-costs : goal.invariant-costs
invariant-costs l = IsScanned l.equations l.most l.fn.self l.self l.cost 0

abbrev pub decreases-costs : goal.decreases-costs
decreases-costs l = 4294967296 - l.cost
