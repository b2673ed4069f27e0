use Rattle.mr_array_laws.proofs.ReturnLaws.{brings-back}
use Rattle.mr_array_laws.proofs.gathered_devices_come_back.Goals as goal

pub returns : goal.returns
returns c = brings-back c.args.head.now c.bytes-within_the_limits.ensures.limits
