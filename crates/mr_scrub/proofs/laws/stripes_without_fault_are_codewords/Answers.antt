use Rattle.mr_scrub.proofs.ScrubLaws.{tells-codewords}
use Rattle.mr_scrub.proofs.laws.stripes_without_fault_are_codewords.Goals as goal

pub returns : goal.returns
returns c = tells-codewords c.args.head.now
