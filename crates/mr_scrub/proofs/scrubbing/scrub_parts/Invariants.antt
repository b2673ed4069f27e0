use Rattle.std.proofs.Common.{◌-◌}
use Rattle.mr_scrub.proofs.ScrubLaws.{IsScrubbed}
use Rattle.mr_scrub.proofs.scrubbing.scrub_parts.Given as goal

-- the broken stripes of those before the next part are found
abbrev pub invariant-loop-first : goal.invariant-loop-first
invariant-loop-first g l = IsScrubbed l.fn.scanner.head.now l.fn.scanner.checks.now l.first (g.E.Eye.sight l.initial.eye) (g.E.Eye.sight l.eye)
    (g.E.Eye.faults l.initial.eye) (g.E.Eye.faults l.eye) l.broken.items

abbrev pub decreases-loop-first : goal.decreases-loop-first
decreases-loop-first g l = l.stripes - l.first
