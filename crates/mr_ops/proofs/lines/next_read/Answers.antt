use Rattle.std.proofs.Common.{◌∷◌, ap}
use Rattle.mr_ops.proofs.LineLaws.{none-read}
use Rattle.mr_ops.proofs.lines.next_read.Goals as goal

pub returns-in_err-ask-clause-none : goal.returns-in_err-ask-clause-none
returns-in_err-ask-clause-none c = rw c.from_residual.ensures (none-read c.args.head.now c.args._k c.args.rest.now c.in_err-ask.ensures.none)

pub returns-clause-text : goal.returns-clause-text
returns-clause-text c = ap (λ t. 114 ∷ 32 ∷ t) c.in_ok-ask.ensures.text
