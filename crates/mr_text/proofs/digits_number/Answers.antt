use Rattle.std.proofs.Common.{arith, ◌∙◌, ap, ◌+◌, ◌*◌}
use Rattle.mr_text.proofs.NumberLaws.{reads_digit}
use Rattle.mr_text.proofs.digits_number.Goals as goal

pub overflow_mul-number : goal.overflow_mul-number
overflow_mul-number c = omega (arith, (reads_digit _ _ _ c.requires.few c.requires.all_digits c.loop-digit-test.true c.loop-digit.invariant).fits)

pub overflow_sub-digit : goal.overflow_sub-digit
overflow_sub-digit c = (reads_digit _ _ _ c.requires.few c.requires.all_digits c.loop-digit-test.true c.loop-digit.invariant).digit

pub overflow_add-number : goal.overflow_add-number
overflow_add-number c = omega (arith, c.from.ensures, (reads_digit _ _ _ c.requires.few c.requires.all_digits c.loop-digit-test.true c.loop-digit.invariant).fits)

pub loop-digit-preserved : goal.loop-digit-preserved
loop-digit-preserved c = ap (λ d. c.loop-digit.number * 10 + d) c.from.ensures ∙ (reads_digit _ _ _ c.requires.few c.requires.all_digits c.loop-digit-test.true c.loop-digit.invariant).next
