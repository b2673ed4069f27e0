-- What the clauses of a queue of jobs say of its passes.
use Rattle.std.specs.Prelude.{◌≡◌, ℕ}
use Rattle.crossbeam_queue.specs.SegTies.{IsSegPassOf}
use Rattle.mr_table.specs.declared.view.JobView.{JobView}
use Rattle.mr_table.specs.declared.pass.JobPass.{JobPass}
use Rattle.mr_table.specs.declared.jobs.Jobs.{Jobs}

-- how many jobs there are
abbrev pub count_of : Jobs → ℕ
count_of q = q.count

-- what the pass knows
abbrev pub pass_view : JobPass → JobView
pass_view p = p.seat.me.view.client

-- the pass is of this queue, all of whose jobs were pushed
pub record IsPassOf (q : Jobs) (p : JobPass) : Type 0 where
  pub seat : IsSegPassOf q.queue p.seat
  pub pushed : (pass_view p).pushed ≡ count_of q
