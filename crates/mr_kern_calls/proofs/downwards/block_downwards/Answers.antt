use Rattle.std.proofs.Common.{arith}
use Rattle.mr_kern_calls.proofs.DownLaws.{downwards-begins, downwards-turn}
use Rattle.mr_kern_calls.proofs.downwards.block_downwards.Goals as goal

pub loop-done-init : goal.loop-done-init
loop-done-init c = downwards-begins c.args.a c.args.b (omega arith) (omega arith)

pub loop-done-preserved : goal.loop-done-preserved
loop-done-preserved c = downwards-turn c.args.a c.args.b (omega arith) (omega arith) c.loop-done.done c.loop-done.block c.loop-done.invariant (omega arith)
