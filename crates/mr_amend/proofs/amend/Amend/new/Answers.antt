use Rattle.std.proofs.Common.{ap}
use Rattle.mr_history.specs.Histories.{names_of}
use Rattle.mr_history.proofs.HistoryLaws.{fresh_fits}
use Rattle.mr_locks.specs.Rule.{Mine}
use Rattle.mr_amend.proofs.Counting.{call_small}
use Rattle.mr_amend.proofs.Calling.{first_of_all}
use Rattle.mr_amend.proofs.amend.Amend.new.Goals as goal

pub new-requires-clause-small : goal.new-requires-clause-small
new-requires-clause-small c = λ t. call_small (names_of c.args.terms.now) t c.requires.small

pub new-requires-clause-fresh : goal.new-requires-clause-fresh
new-requires-clause-fresh c = λ t d low.
    fresh_fits (names_of c.args.terms.now) t _ c.requires.parts low (c.in_ok-stripes.ensures.each t d low)

pub returns-clause-first : goal.returns-clause-first
returns-clause-first c =
    first_of_all _ _ (names_of c.args.terms.now) c.in_ok-locks.ensures.names c.in_ok-locks.ensures.seat (ap (λ (m : Mine). m.0) c.in_ok-locks.ensures.view)
