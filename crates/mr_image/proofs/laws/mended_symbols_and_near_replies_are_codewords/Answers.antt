use Rattle.mr_image.proofs.Codewords.{gives-codewords}
use Rattle.mr_image.proofs.laws.mended_symbols_and_near_replies_are_codewords.Goals as goal

pub returns : goal.returns
returns c = gives-codewords c.args.head.now c.bytes-within_the_limits.ensures.limits
