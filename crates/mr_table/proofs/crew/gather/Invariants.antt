use Rattle.std.proofs.Common.{◌≡◌, ◌+◌, All, sum_by, vec_len}
use Rattle.mr_counts.specs.Shares.{whole_share}
use Rattle.mr_table.specs.Rule.{share_of}
use Rattle.mr_table.specs.Passes.{pass_view, IsPassOf}
use Rattle.mr_table.specs.Work.{share, AreRowsOf, IsDone}
use Rattle.mr_table.proofs.crew.gather.Given as goal

abbrev pub invariant-loop-worker : goal.invariant-loop-worker
invariant-loop-worker g l = record {
  pass : IsPassOf l.task.jobs.now l.pass;
  done : All (IsDone l.task) l.crew.items;
  shares : share_of (pass_view l.pass) + sum_by share l.crew.items ≡ whole_share;
  rows : AreRowsOf l.task l.pass l.rows.items;
}

abbrev pub decreases-loop-worker : goal.decreases-loop-worker
decreases-loop-worker g l = vec_len l.crew
