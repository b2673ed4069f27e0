use Rattle.std.proofs.Common.{arith, ◌∙◌}
use Rattle.mr_image.specs.Rotated.{rotations}
use Rattle.mr_io.proofs.Taking.{puts_err}
use Rattle.mr_ready.specs.Reports.{choice_text}
use Rattle.mr_ready.proofs.Rotations.{part-next, takes-all, takes-next}
use Rattle.mr_ready.proofs.printing.print_plans.Goals as goal

pub returns-in_err-print_plan-clause-puts : goal.returns-in_err-print_plan-clause-puts
returns-in_err-print_plan-clause-puts g c =
    puts_err _ _ _ _ c.from_residual.ensures.0
    (part-next (choice_text c.args.order.now.head c.args.order.now.plans c.args.order.now.lines.items) (rotations c.args.order.now.head) c.loop-rotation.rotation (omega arith) _ _ _
    c.loop-rotation.invariant.taken c.in_err-print_plan.ensures.puts.err)

pub loop-rotation-preserved : goal.loop-rotation-preserved
loop-rotation-preserved g c = record {
  taken = takes-next (choice_text c.args.order.now.head c.args.order.now.plans c.args.order.now.lines.items) (rotations c.args.order.now.head) c.loop-rotation.rotation (omega arith) _ _ _
      c.loop-rotation.invariant.taken c.in_ok-print_plan.ensures.puts.ok;
  quiet = c.in_ok-print_plan.ensures.cause.quiet ∙ c.loop-rotation.invariant.quiet;
}

pub returns-clause-puts : goal.returns-clause-puts
returns-clause-puts g c = record {
  ok = takes-all (choice_text c.args.order.now.head c.args.order.now.plans c.args.order.now.lines.items) (rotations c.args.order.now.head) c.loop-rotation.rotation _ _
      (omega (arith, c.rotations-rotation-end.ensures)) (omega (arith, c.rotations-rotation-end.ensures)) c.loop-rotation.invariant.taken;
  err = tt;
}
