use Rattle.std.proofs.Common.{subst}
use Rattle.mr_bits.specs.Matrices.{IsMatrixCode}
use Rattle.mr_drill_run.proofs.LeastPlans.{least-first, least-kind}
use Rattle.mr_drill_run.proofs.laws.cost_is_least.Goals as goal

pub returns-clause-kind : goal.returns-clause-kind
returns-clause-kind c = λ number. least-kind (subst IsMatrixCode c.code_of_drills-code.ensures c.shape-within_the_limits.ensures.code) number

pub returns-clause-least : goal.returns-clause-least
returns-clause-least c = λ number. least-first (subst IsMatrixCode c.code_of_drills-code.ensures c.shape-within_the_limits.ensures.code) number
