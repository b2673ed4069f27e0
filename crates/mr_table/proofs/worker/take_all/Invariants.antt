use Rattle.std.proofs.Common.{◌≡◌, ◌-◌, length}
use Rattle.mr_table.specs.Rule.{share_of}
use Rattle.mr_table.specs.Passes.{pass_view, count_of, IsPassOf}
use Rattle.mr_table.specs.Work.{AreRowsOf}
use Rattle.mr_table.proofs.worker.take_all.Given as goal

abbrev pub invariant-loop-number : goal.invariant-loop-number
invariant-loop-number g l = record {
  pass : IsPassOf l.task.jobs.now l.pass;
  share : share_of (pass_view l.pass) ≡ share_of (pass_view l.fn.pass);
  rows : AreRowsOf l.task l.pass l.rows.items;
}

abbrev pub decreases-loop-number : goal.decreases-loop-number
decreases-loop-number g l = count_of l.task.jobs.now - length (pass_view l.pass).taken
