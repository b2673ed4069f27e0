use Rattle.mr_patch.specs.Damages.{parts_of}
use Rattle.mr_sectors.specs.Repairs.{budget_in}
use Rattle.mr_sectors.proofs.RepairLaws.{output-told}
use Rattle.mr_sectors.proofs.repairing.Repair.carry.Goals as goal

pub returns-clause-repaired : goal.returns-clause-repaired
returns-clause-repaired g c =
    output-told (parts_of c.args.patching.now.damage) (budget_in c.args.self) _ c.args.self.counts.patterns c.args.self.counts.mended _
    _ _ c.in_ok-image.ensures.patched c.requires.ready.patterns c.requires.ready.mended c.in_ok-image.ensures.reads
