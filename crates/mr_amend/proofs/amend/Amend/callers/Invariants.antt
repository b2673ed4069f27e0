use Rattle.std.proofs.Common.{length}
use Rattle.mr_locks.specs.Seats.{names}
use Rattle.mr_amend.proofs.Deals.{Dealt}
use Rattle.mr_amend.proofs.amend.Amend.callers.Given as goal

abbrev pub invariant-loop-number : goal.invariant-loop-number
invariant-loop-number l = Dealt l.self l.count l.number 0 l.first l.callers.items

abbrev pub invariant-loop-stripe : goal.invariant-loop-stripe
invariant-loop-stripe l = Dealt l.self l.count (length (names l.self.locks).ops) l.stripe l.first l.callers.items
