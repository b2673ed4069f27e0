use Rattle.mr_patch.specs.Damages.{parts_of}
use Rattle.mr_sectors.proofs.RepairLaws.{writes-codewords}
use Rattle.mr_sectors.proofs.laws.repairs_write_codewords.Goals as goal

pub returns : goal.returns
returns c = writes-codewords (parts_of c.args.damage.now) c.bytes-within_the_limits.ensures.limits c.shape-code.ensures.code c.requires
