use Rattle.mr_amend.specs.Callers.{view}
use Rattle.mr_callers.proofs.Serving.{ended_asks_first, ended_mends_first}
use Rattle.mr_callers.proofs.running.run_job.Goals as goal

pub returns-then-asks_first : goal.returns-then-asks_first
returns-then-asks_first g c =
    let job = c.args.job.now in
    ended_asks_first c.args.task.now.amend.now (view job.caller) job.slots.items _ c.ask_all.new.caller c.mend_all.new.caller c.ask_all.ensures c.mend_all.ensures.mends c.mend_all.ensures.none

pub returns-else-asks_first : goal.returns-else-asks_first
returns-else-asks_first g c =
    let job = c.args.job.now in
    ended_mends_first c.args.task.now.amend.now (view job.caller) job.slots.items _ c.mend_all-else-asks_first.new.caller c.ask_all-else-asks_first.new.caller c.mend_all-else-asks_first.ensures.mends
    c.mend_all-else-asks_first.ensures.none c.ask_all-else-asks_first.ensures
