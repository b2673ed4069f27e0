use Rattle.mr_history.specs.Histories.{names_of}
use Rattle.mr_history.proofs.HistoryLaws.{changes}
use Rattle.mr_history.proofs.laws.writes_alone_change_a_stripe.Goals as goal

pub returns : goal.returns
returns c = changes (names_of c.args.terms.now)
