use Rattle.std.proofs.Common.{◌++◌, ap, flat_map, refl, subst}
use Rattle.std.specs.List.{range_with_len}
use Rattle.std.proofs.lemmas.Result.{err_from_is_err_and}
use Rattle.mr_image.specs.Rotated.{rotations}
use Rattle.mr_io.specs.Taking.{Takes, TakesPart}
use Rattle.mr_io.proofs.Taking.{part_after, part_more, puts_err, puts_then, takes_more}
use Rattle.mr_mend.specs.Replies.{buffer_lines}
use Rattle.mr_ready.specs.Reports.{choice_text, plans_report, stripes_text}
use Rattle.mr_steps.proofs.Sinks.{puts_same}
use Rattle.mr_ready.proofs.printing.print_report.Goals as goal

pub returns-in_err-print_stripes-clause-puts : goal.returns-in_err-print_stripes-clause-puts
returns-in_err-print_stripes-clause-puts g c =
    let p = err_from_is_err_and c.from_residual-in_err-print_stripes.result c.from_residual-in_err-print_stripes.ensures.1 in
    rw p.1 (puts_err _ _ _ (plans_report c.args.order.now.head c.args.order.now.plans c.args.order.now.lines.items
    ++ buffer_lines c.args.order.now.head.symbol_bytes c.args.order.now.asks.items c.args.replies.now) refl
    (part_after _ _ (plans_report c.args.order.now.head c.args.order.now.plans c.args.order.now.lines.items) (buffer_lines c.args.order.now.head.symbol_bytes c.args.order.now.asks.items c.args.replies.now)
    (part_more _ _ _ (flat_map (choice_text c.args.order.now.head c.args.order.now.plans c.args.order.now.lines.items) (range_with_len 0 (rotations c.args.order.now.head))) (stripes_text c.args.order.now.head.stripes)
    c.in_ok-print_plans.ensures.puts.ok
    (subst (λ stripes. TakesPart (g.K.Sink.held c.print_plans.new.report) (g.K.Sink.held c.print_stripes.new.report) (stripes_text stripes)) c.stripes.ensures.number c.in_err-print_stripes.ensures.puts.err))))

pub returns-clause-puts : goal.returns-clause-puts
returns-clause-puts g c = puts_then _ _ _ _ (plans_report c.args.order.now.head c.args.order.now.plans c.args.order.now.lines.items) (buffer_lines c.args.order.now.head.symbol_bytes c.args.order.now.asks.items c.args.replies.now)
    (takes_more _ _ _ (flat_map (choice_text c.args.order.now.head c.args.order.now.plans c.args.order.now.lines.items) (range_with_len 0 (rotations c.args.order.now.head))) (stripes_text c.args.order.now.head.stripes)
    c.in_ok-print_plans.ensures.puts.ok
    (subst (λ stripes. Takes (g.K.Sink.held c.print_plans.new.report) (g.K.Sink.held c.print_stripes.new.report) (stripes_text stripes)) c.stripes.ensures.number c.in_ok-print_stripes.ensures.puts.ok))
    (puts_same (ap (λ asks. buffer_lines c.args.order.now.head.symbol_bytes asks c.args.replies.now) c.deref.ensures.value) c.print_replies.ensures.puts)
