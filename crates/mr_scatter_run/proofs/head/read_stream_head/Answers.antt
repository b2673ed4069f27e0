use Rattle.std.proofs.Common.{arith}
use Rattle.mr_scatter_run.proofs.HeadLaws.{on-ok, stream-gives, stream-refused, stream-rest}
use Rattle.mr_scatter_run.proofs.head.read_stream_head.Goals as goal

pub returns-then-branch-lt-HEAD-clause-given : goal.returns-then-branch-lt-HEAD-clause-given
returns-then-branch-lt-HEAD-clause-given g c = λ x there _.
    stream-refused c.args.shape _ c.fill.new.buf c.in_ok-fill.field-0 (omega arith) _ c.in_ok-fill.ensures.read (c.in_ok-fill.ensures.ended (omega arith)) (omega arith) x there

pub returns-clause-given : goal.returns-clause-given
returns-clause-given g c =
    stream-gives c.args.shape _ c.fill.new.buf c.in_ok-fill.field-0 (omega arith) (λ head. head) c.head_in.result _ c.in_ok-fill.ensures.read (omega arith) c.head_in.ensures.given

pub returns-clause-rest : goal.returns-clause-rest
returns-clause-rest g c =
    on-ok c.head_in.result (stream-rest c.args.shape _ c.fill.new.buf c.in_ok-fill.field-0 (omega arith) _ c.in_ok-fill.ensures.read (omega arith))
