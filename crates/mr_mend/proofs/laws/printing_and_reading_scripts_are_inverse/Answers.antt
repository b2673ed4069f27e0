use Rattle.mr_mend.proofs.ScriptTexts.{reads-scripts}
use Rattle.mr_mend.proofs.laws.printing_and_reading_scripts_are_inverse.Goals as goal

pub returns : goal.returns
returns c = reads-scripts c.args.head.now c.bytes-within_the_limits.ensures.limits
