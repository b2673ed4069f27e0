use Rattle.std.proofs.Common.{length}
use Rattle.mr_ops.proofs.TextLaws.{IsReading}
use Rattle.mr_ops.proofs.scripts.read_lines.Given as goal

-- the asks of the lines so far are read
abbrev pub invariant-loop-left : goal.invariant-loop-left
invariant-loop-left l = IsReading l.fn.head l.fn.k l.fn.bytes l.ops.items l.left

abbrev pub decreases-loop-left : goal.decreases-loop-left
decreases-loop-left l = length l.left
