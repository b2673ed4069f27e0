use Rattle.std.proofs.Common.{◌+◌, ◌-◌, length}
use Rattle.mr_io.proofs.Consuming.{ReadSoFar}
use Rattle.mr_io.proofs.reading.read_source.Given as goal

abbrev pub invariant-loop-bytes : goal.invariant-loop-bytes
invariant-loop-bytes g l = ReadSoFar (g.S.Source.left l.initial.source) (g.S.Source.left l.source) (g.S.Source.faults l.initial.source) (g.S.Source.faults l.source) l.bytes.items l.limit

abbrev pub decreases-loop-bytes : goal.decreases-loop-bytes
decreases-loop-bytes g l = l.limit + 1 - length l.bytes.items
