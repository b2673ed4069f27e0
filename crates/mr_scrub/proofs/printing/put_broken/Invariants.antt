use Rattle.std.proofs.Common.{flat_map, take}
use Rattle.mr_io.proofs.Fronts.{TakenSoFar}
use Rattle.mr_scrub.specs.Scrubs.{broken_line}
use Rattle.mr_scrub.proofs.printing.put_broken.Given as goal

-- the lines of the stripes so far are taken
abbrev pub invariant-loop-stripe : goal.invariant-loop-stripe
invariant-loop-stripe g l = TakenSoFar (g.K.Sink.held l.initial.out) (g.K.Sink.held l.out) (g.K.Sink.faults l.initial.out) (g.K.Sink.faults l.out)
    (flat_map broken_line (take l.stripe-index l.broken))
