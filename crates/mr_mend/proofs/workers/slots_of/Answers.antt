use Rattle.std.proofs.Common.{refl, arith}
use Rattle.mr_mend.proofs.Strides.{slots-more, slots-end}
use Rattle.mr_mend.proofs.workers.slots_of.Goals as goal

pub loop-number-preserved : goal.loop-number-preserved
loop-number-preserved c = rw c.in_ok-push.ensures.items
    (slots-more c.args.first c.args.step c.args.asks c.args.head.now.symbol_bytes c.loop-number.slots.items record { number = c.loop-number.number; bytes = c.in_ok-bytes.bytes } c.loop-number.number _
    c.loop-number.invariant (omega arith) refl (omega (arith, c.in_ok-bytes.ensures.len, c.bytes-size.ensures.number)) (omega (arith, c.from-number-in-loop-number.ensures)))

pub returns-clause-numbers : goal.returns-clause-numbers
returns-clause-numbers c = slots-end _ _ _ _ _ _ c.loop-number.invariant (omega arith)
