use Rattle.std.proofs.Common.{◌*◌, refl, ap}
use Rattle.mr_ops.proofs.LineLaws.{none-write, same-unread, write-digits, write-ended, write-parts, write-payload}
use Rattle.mr_ops.specs.declared.unread.Unread.TheVariants.{Line}
use Rattle.mr_ops.proofs.lines.next_write.Goals as goal

pub returns-in_default-clause-none : goal.returns-in_default-clause-none
returns-in_default-clause-none c _ = none-write c.args.head.now c.args.k c.args.rest.now (λ t p more low in_p is. c.in_default.ensures.none t _ low is)

pub returns-in_default-split_line-clause-none : goal.returns-in_default-split_line-clause-none
returns-in_default-split_line-clause-none c _ = none-write c.args.head.now c.args.k c.args.rest.now (λ t p more low in_p is.
    write-ended c.args.head.now c.bytes.ensures.limits c.args.k c.in-Some.stripe t c.args.rest.now c.in-Some.text.now p more c.in-Some.ensures.low low in_p
    c.in-Some.ensures.text is _ _ (ap (λ b. c.args.k * b) c.bytes.ensures.number) refl c.in_default-split_line.ensures.none)

pub returns-in-Ok-clause-text : goal.returns-in-Ok-clause-text
returns-in-Ok-clause-text c =
    write-parts c.in-Some.stripe c.in-Ok.payload c.args.rest.now c.in-Some.text.now c.in-Some-split_line.digits.now c.in-Some-split_line.later.now
    c.in-Some.ensures.text c.in-Some-split_line.ensures.text c.in-Ok.ensures.text

pub returns-in-Ok-clause-in_range : goal.returns-in-Ok-clause-in_range
returns-in-Ok-clause-in_range c = (
  c.in-Some.ensures.low,
  write-payload c.args.head.now c.args.k c.in-Ok.payload c.in-Some-split_line.digits.now _ _ (ap (λ b. c.args.k * b) c.bytes.ensures.number) refl
      c.in-Some-split_line.ensures.long c.in-Ok.ensures.text c.in-Ok.ensures.bytes,
)

pub returns-in-Err-clause-none : goal.returns-in-Err-clause-none
returns-in-Err-clause-none c is = none-write c.args.head.now c.args.k c.args.rest.now (λ t p more low in_p e.
    c.in-Err.ensures.none (same-unread c.in-Err.unread Line is) p in_p.bytes
    (write-digits c.args.head.now c.bytes.ensures.limits c.args.k c.in-Some.stripe t c.args.rest.now c.in-Some.text.now p more c.in-Some.ensures.low low in_p
    c.in-Some.ensures.text e c.in-Some-split_line.digits.now c.in-Some-split_line.later.now _ _ (ap (λ b. c.args.k * b) c.bytes.ensures.number) refl c.in-Some-split_line.ensures.long c.in-Some-split_line.ensures.text))
