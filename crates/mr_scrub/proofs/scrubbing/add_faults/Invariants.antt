use Rattle.mr_scrub.proofs.ScrubLaws.{AddsFaults}
use Rattle.mr_scrub.proofs.scrubbing.add_faults.Given as goal

-- the broken ones of the first k stripes are appended
abbrev pub invariant-loop-k : goal.invariant-loop-k
invariant-loop-k l = AddsFaults l.checks l.first l.faults l.k l.initial.broken.items l.broken.items
