-- What the workers of a table go by, begin with, and have done.
use Rattle.std.specs.Prelude.{◌≡◌, ℕ, List, [], map, length, OnOk}
use Rattle.mr_table.specs.declared.row.Row.{Row}
use Rattle.mr_table.specs.declared.task.Task.{Task}
use Rattle.mr_table.specs.declared.pass.JobPass.{JobPass}
use Rattle.mr_table.specs.declared.worker.Worker.{Worker}
use Rattle.mr_table.specs.Rule.{share_of}
use Rattle.mr_table.specs.Passes.{pass_view, count_of, IsPassOf}
use Rattle.mr_table.specs.Rows.{row_of}

-- there is a job for each loss
abbrev pub IsTask : Task → Type 0
IsTask t = count_of t.jobs.now ≡ length t.losses.now.items

-- the rows are those of the jobs that the pass took
abbrev pub AreRowsOf : Task → JobPass → List Row → Type 0
AreRowsOf t pass rows =
    rows ≡ map (row_of t.matrix.now t.budget t.losses.now.items) (pass_view pass).taken

-- it took no job and made no row
pub record IsReady (t : Task) (w : Worker) : Type 0 where
  pub pass : IsPassOf t.jobs.now w.pass
  pub taken : (pass_view w.pass).taken ≡ []
  pub rows : w.rows.items ≡ []

-- it made the row of each job that it took, or it had no memory
pub record IsDone (t : Task) (w : Worker) : Type 0 where
  pub pass : IsPassOf t.jobs.now w.pass
  pub rows : OnOk w.outcome (AreRowsOf t w.pass w.rows.items)

-- its part of the right to know that every job was taken
abbrev pub share : Worker → ℕ
share w = share_of (pass_view w.pass)

-- it is done, with the share that it had
pub record HasWorked (t : Task) (v w : Worker) : Type 0 where
  pub done : IsDone t w
  pub share_stays : share w ≡ share v
