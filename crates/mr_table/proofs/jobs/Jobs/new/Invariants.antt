use Rattle.std.proofs.Common.{◌≡◌}
use Rattle.crossbeam_queue.specs.SegTies.{IsSegPassOf}
use Rattle.mr_table.specs.Rule.{first_view}
use Rattle.mr_table.specs.Passes.{pass_view}
use Rattle.mr_table.proofs.jobs.Jobs.new.Given as goal

abbrev pub invariant-loop-number : goal.invariant-loop-number
invariant-loop-number g l = record {
  pass : IsSegPassOf l.jobs.queue l.pass.seat;
  view : pass_view l.pass ≡ first_view l.number;
}
