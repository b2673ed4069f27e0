use Rattle.mr_amend.specs.Callers.{view}
use Rattle.mr_callers.specs.Jobs.{HasAskedFirst}
use Rattle.mr_callers.proofs.running.ask_all.Given as goal

abbrev pub invariant-loop-index : goal.invariant-loop-index
invariant-loop-index g l = HasAskedFirst l.fn.task.amend.now (view l.fn.caller) l.fn.slots.items l.index l.caller l.slots.items
