use Rattle.std.proofs.Common.{arith, ap}
use Rattle.std.proofs.lemmas.Result.{err_from_is_err_and}
use Rattle.mr_top.proofs.RebuildSteps.{head-read, head-short}
use Rattle.mr_top.proofs.image_head.head_behind.Goals as goal

pub returns-then-length-lt-HEAD_BYTES-clause-given : goal.returns-then-length-lt-HEAD_BYTES-clause-given
returns-then-length-lt-HEAD_BYTES-clause-given g c = λ x there _.
    head-short _ _ _ c.in_ok-length.ensures.number (omega (arith, c.if-length-lt-HEAD_BYTES.true)) x there

pub returns-in_err-head-clause-given : goal.returns-in_err-head-clause-given
returns-in_err-head-clause-given g c =
    let p = err_from_is_err_and c.from_residual-in_err-head.result c.from_residual-in_err-head.ensures.1 in
    rw (p.1, p.2) (λ x there _.
    head-read _ _ _ _ _ _ _ (ap (λ sight. sight.bytes) c.in_ok-length.ensures.same) c.in_ok-length.ensures.number (omega (arith, c.if-length-lt-HEAD_BYTES.false))
    c.in_ok-read_at.ensures.read c.shape.ensures.shape c.in_err-head.ensures.value x there)

pub returns-clause-given : goal.returns-clause-given
returns-clause-given g c = λ x there.
    head-read _ _ _ _ _ _ _ (ap (λ sight. sight.bytes) c.in_ok-length.ensures.same) c.in_ok-length.ensures.number (omega (arith, c.if-length-lt-HEAD_BYTES.false))
    c.in_ok-read_at.ensures.read c.shape.ensures.shape c.in_ok-head.ensures.value x there
