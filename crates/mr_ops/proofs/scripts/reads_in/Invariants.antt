use Rattle.std.proofs.Common.{◌≡◌, ◌≤◌, take}
use Rattle.std.specs.Prelude.{count_by}
use Rattle.mr_ops.specs.Ops.{is_read}
use Rattle.mr_ops.proofs.scripts.reads_in.Given as goal

-- the asks so far that read are counted
abbrev pub invariant-loop-op : goal.invariant-loop-op
invariant-loop-op l = (l.count ≡ count_by is_read (take l.op-index l.ops)) × (l.count ≤ l.op-index)
