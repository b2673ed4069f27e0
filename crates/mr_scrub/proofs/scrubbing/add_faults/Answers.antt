use Rattle.std.proofs.Common.{◌+◌, refl, arith, mod-lt}
use Rattle.mr_scrub.proofs.ScrubLaws.{adds-fault, adds-faults}
use Rattle.mr_scrub.proofs.scrubbing.add_faults.Goals as goal

pub loop-k-preserved : goal.loop-k-preserved
loop-k-preserved c =
    adds-fault c.args.checks.now c.args.first c.args.faults.now c.loop-k.k c.args.broken.now.items c.loop-k.broken.items c.add_fault.new.broken.items
    c.index-checks-stripe.result _ c.loop-k.invariant c.index-checks-stripe.is (mod-lt (c.args.first + c.loop-k.k) c.requires.some) refl c.in_ok-add_fault.ensures.added

pub returns-clause-added : goal.returns-clause-added
returns-clause-added c =
    adds-faults c.args.checks.now c.args.first c.args.faults.now c.loop-k.k c.args.broken.now.items c.loop-k.broken.items c.loop-k.invariant (omega arith)
