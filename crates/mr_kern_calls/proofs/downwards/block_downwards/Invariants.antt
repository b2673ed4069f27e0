use Rattle.std.proofs.Common.{◌≡◌, ◌-◌}
use Rattle.mr_kern_calls.proofs.DownLaws.{xored_from}
use Rattle.mr_kern_calls.proofs.downwards.block_downwards.Given as goal

abbrev pub invariant-loop-done : goal.invariant-loop-done
invariant-loop-done l = l.block ≡ xored_from (64 - l.done) l.fn.a l.fn.b
