use Rattle.std.proofs.Common.{subst}
use Rattle.mr_io.specs.Counts.{Rose}
use Rattle.mr_io.specs.Taking.{Takes}
use Rattle.mr_ready.specs.Crews.{eyes_of}
use Rattle.mr_ready.specs.Lent.{told_by}
use Rattle.mr_ready.specs.Orders.{parts_of_order}
use Rattle.mr_ready.specs.Written.{output_of}
use Rattle.mr_ready.specs.declared.orders.Order.{Order}
use Rattle.mr_ready.proofs.CarryLaws.{output-of-read, writes-all, writes-front}
use Rattle.mr_ready.proofs.carrying.carry.Goals as goal
use Rattle.mr_steps.specs.Sinks.{Reports, TakesFront}
use Rattle.std.specs.Prelude.{Ok}

pub returns-in-Ok-write_rebuilt-clause-written : goal.returns-in-Ok-write_rebuilt-clause-written
returns-in-Ok-write_rebuilt-clause-written g c =
    writes-all (parts_of_order c.args.ready.order) (told_by g.E.Eye.sight (eyes_of c.args.ready.crew)) (output_of c.args.ready.order c.in-Ok.made)
    (g.O.Sink.held c.args.out.now) (g.O.Sink.held c.write_rebuilt.new.out) (g.R.Sink.held c.args.report.now) (g.R.Sink.held c.write_rebuilt.new.report)
    (output-of-read c.args.ready.order (told_by g.E.Eye.sight (eyes_of c.args.ready.crew)) c.mend_image-order.result.made c.in-Ok.made c.in-Ok.is
    c.mend_image-order.ensures.image c.mend_image-order.ensures.replies)
    (subst (λ (o : Order). Takes (g.O.Sink.held c.args.out.now) (g.O.Sink.held c.write_rebuilt.new.out) (output_of o c.in-Ok.made).out)
    c.mend_image-order.ensures.order c.in-Ok-write_rebuilt.ensures.written.0)
    (subst (λ (o : Order). Takes (g.R.Sink.held c.args.report.now) (g.R.Sink.held c.write_rebuilt.new.report) (output_of o c.in-Ok.made).report)
    c.mend_image-order.ensures.order c.in-Ok-write_rebuilt.ensures.written.1)

pub returns-in-Ok-clause-cut : goal.returns-in-Ok-clause-cut
returns-in-Ok-clause-cut g c = λ _.
    writes-front (parts_of_order c.args.ready.order) (told_by g.E.Eye.sight (eyes_of c.args.ready.crew)) (output_of c.args.ready.order c.in-Ok.made)
    (g.O.Sink.held c.args.out.now) (g.O.Sink.held c.write_rebuilt.new.out) (g.R.Sink.held c.args.report.now) (g.R.Sink.held c.write_rebuilt.new.report)
    (Rose (g.R.Sink.faults c.args.report.now) (g.R.Sink.faults c.write_rebuilt.new.report))
    (output-of-read c.args.ready.order (told_by g.E.Eye.sight (eyes_of c.args.ready.crew)) c.mend_image-order.result.made c.in-Ok.made c.in-Ok.is
    c.mend_image-order.ensures.image c.mend_image-order.ensures.replies)
    (subst (λ (o : Order). TakesFront (g.O.Sink.held c.args.out.now) (g.O.Sink.held c.write_rebuilt.new.out) (output_of o c.in-Ok.made).out)
    c.mend_image-order.ensures.order c.in-Err-write_rebuilt.ensures.cut)
    (subst (λ (o : Order). Reports 10 (Ok (output_of o c.in-Ok.made)) (g.O.Sink.held c.args.out.now) (g.O.Sink.held c.write_rebuilt.new.out)
    (g.R.Sink.held c.args.report.now) (g.R.Sink.held c.write_rebuilt.new.report)
    (Rose (g.R.Sink.faults c.args.report.now) (g.R.Sink.faults c.write_rebuilt.new.report)))
    c.mend_image-order.ensures.order c.in-Err-write_rebuilt.ensures.reported)
