use Rattle.std.proofs.lemmas.Result.{err_from_is_err_and}
use Rattle.mr_scatter_run.proofs.HeadLaws.{head-given}
use Rattle.mr_scatter_run.proofs.head.head_in.Goals as goal

pub returns-in_err-head-clause-given : goal.returns-in_err-head-clause-given
returns-in_err-head-clause-given c =
    let p = err_from_is_err_and c.from_residual.result c.from_residual.ensures.1 in
    rw (p.1, p.2) (λ _. head-given _ _ _ _ c.named_length.ensures.named c.in_err-head.ensures.value)

pub returns-clause-given : goal.returns-clause-given
returns-clause-given c = head-given _ _ _ _ c.named_length.ensures.named c.in_ok-head.ensures.value
