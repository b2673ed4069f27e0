use Rattle.mr_history.specs.Histories.{names_of}
use Rattle.mr_account.proofs.OrderLaws.{stands}
use Rattle.mr_account.proofs.laws.callers_keep_their_order.Goals as goal

pub returns : goal.returns
returns c callers account r = stands (names_of c.args.terms.now) callers account r
