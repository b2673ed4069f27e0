use Rattle.mr_ops.proofs.TextLaws.{are-one-of}
use Rattle.mr_ops.proofs.laws.texts_of_ops_have_no_bad_line.Goals as goal

pub returns : goal.returns
returns c = are-one-of c.args.head.now c.bytes-within_the_limits.ensures.limits
