use Rattle.std.proofs.Common.{◌++◌, ap, refl, subst}
use Rattle.std.proofs.lemmas.Result.{err_from_is_err_and}
use Rattle.mr_io.specs.Taking.{Takes, TakesPart}
use Rattle.mr_io.proofs.Taking.{part_after, part_more, puts_err, puts_then, takes_more}
use Rattle.mr_plan.specs.PlanLists.{plan_at}
use Rattle.mr_plan.specs.PlanText.{plan_text}
use Rattle.mr_steps.specs.Lines.{line_text}
use Rattle.mr_steps.proofs.Sinks.{puts_same}
use Rattle.mr_ready.specs.Reports.{line_at, rotation_text}
use Rattle.mr_ready.proofs.Rotations.{line-is}
use Rattle.mr_ready.proofs.printing.print_plan.Goals as goal

pub returns-in_err-print-clause-puts : goal.returns-in_err-print-clause-puts
returns-in_err-print-clause-puts g c =
    let p = err_from_is_err_and c.from_residual-in_err-print.result c.from_residual-in_err-print.ensures.1 in
    rw p.1 (puts_err _ _ _ (rotation_text c.args.order.now.head c.args.rotation ++ plan_text (plan_at c.args.order.now.plans c.args.rotation) ++ line_text (line_at c.args.order.now.lines.items c.args.rotation)) refl
    (part_after _ _ (rotation_text c.args.order.now.head c.args.rotation ++ plan_text (plan_at c.args.order.now.plans c.args.rotation)) (line_text (line_at c.args.order.now.lines.items c.args.rotation))
    (part_more _ _ _ (rotation_text c.args.order.now.head c.args.rotation) (plan_text (plan_at c.args.order.now.plans c.args.rotation)) c.in_ok-print_rotation.ensures.puts.ok
    (subst (λ plan. TakesPart (g.K.Sink.held c.print_rotation.new.report) (g.K.Sink.held c.print.new.out) (plan_text plan)) c.at.ensures.plan c.in_err-print.ensures.puts.err))))

pub returns-clause-puts : goal.returns-clause-puts
returns-clause-puts g c =
    puts_then _ _ _ _ (rotation_text c.args.order.now.head c.args.rotation ++ plan_text (plan_at c.args.order.now.plans c.args.rotation)) (line_text (line_at c.args.order.now.lines.items c.args.rotation))
    (takes_more _ _ _ (rotation_text c.args.order.now.head c.args.rotation) (plan_text (plan_at c.args.order.now.plans c.args.rotation)) c.in_ok-print_rotation.ensures.puts.ok
    (subst (λ plan. Takes (g.K.Sink.held c.print_rotation.new.report) (g.K.Sink.held c.print.new.out) (plan_text plan)) c.at.ensures.plan c.in_ok-print.ensures.puts.ok))
    (puts_same (ap line_text (line-is c.args.order.now.lines.items c.args.rotation c.index.result.now c.requires.line c.index.ensures)) c.print-2.ensures.puts)
