use Rattle.std.proofs.Common.{sym, ◌∙◌}
use Rattle.mr_form.proofs.HeadLaws.{size_of-some, size_of-zero, size_of-none}
use Rattle.mr_form.proofs.heads.read_size.Goals as goal

pub returns-in_err-size : goal.returns-in_err-size
returns-in_err-size c = c.from_residual.ensures ∙ size_of-none c.args.word.now (sym c.in_err-size.ensures.value)

pub returns-then-size-ge1 : goal.returns-then-size-ge1
returns-then-size-ge1 c = size_of-some c.args.word.now c.in_ok-size.size (sym c.in_ok-size.ensures.value) c.if-size-ge1.true

pub returns-else-size-ge1 : goal.returns-else-size-ge1
returns-else-size-ge1 c = size_of-zero c.args.word.now c.in_ok-size.size (sym c.in_ok-size.ensures.value) c.if-size-ge1.false
