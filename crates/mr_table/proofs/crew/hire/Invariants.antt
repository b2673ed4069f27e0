use Rattle.std.proofs.Common.{◌≡◌, ◌+◌, [], All, length, sum_by}
use Rattle.mr_table.specs.Passes.{pass_view, IsPassOf}
use Rattle.mr_table.specs.Work.{share, IsReady}
use Rattle.mr_table.proofs.crew.hire.Given as goal

-- `counter` workers have passes
abbrev pub invariant-loop : goal.invariant-loop
invariant-loop g l = record {
  pass : IsPassOf l.task.jobs.now l.pass;
  taken : (pass_view l.pass).taken ≡ [];
  left : (pass_view l.pass).left + l.counter ≡ 4095;
  parts : (pass_view l.pass).parts ≡ 1;
  count : length l.crew.items ≡ l.counter;
  ready : All (IsReady l.task) l.crew.items;
  shares : sum_by share l.crew.items ≡ l.counter;
}
