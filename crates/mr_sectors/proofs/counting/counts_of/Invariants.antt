use Rattle.std.specs.Prelude.{length}
use Rattle.std.specs.List.{list_any}
use Rattle.mr_patch.specs.Damages.{parts_of}
use Rattle.mr_patch.proofs.Walking.{IsWalking}
use Rattle.mr_sectors.specs.Counts.{is_same}
use Rattle.mr_sectors.proofs.CountLaws.{CountedBelow}
use Rattle.mr_sectors.proofs.counting.counts_of.Given as goal

-- the patterns of the stripes before this one are seen, their symbols counted, and the sectors of the others left
abbrev pub invariant-loop-stripe : goal.invariant-loop-stripe
invariant-loop-stripe l =
    CountedBelow (parts_of l.fn.damage) l.stripe (λ p. list_any (is_same p) l.seen.keys) (length l.seen.keys) l.mended
    × IsWalking l.fn.damage.sectors.now l.left l.stripe
