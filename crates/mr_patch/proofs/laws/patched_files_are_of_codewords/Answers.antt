use Rattle.mr_patch.specs.Damages.{parts_of}
use Rattle.mr_patch.proofs.Assembling.{gives-code-files}
use Rattle.mr_patch.proofs.laws.patched_files_are_of_codewords.Goals as goal

pub returns : goal.returns
returns c = gives-code-files (parts_of c.args.damage.now) c.bytes-within_the_limits.ensures.limits c.shape-code.ensures.code c.requires
