use Rattle.std.proofs.Common.{rules}
use Rattle.mr_amend.specs.Callers.{view}
use Rattle.mr_callers.proofs.Serving.{goes_on, next_number}
use Rattle.mr_callers.proofs.running.ask_all.Goals as goal

pub fill-requires-clause-next : goal.fill-requires-clause-next
fill-requires-clause-next g c =
    next_number c.args.task.now.amend.now (view c.args.caller.now) c.args.slots.now.items c.loop-index.slots.items c.loop-index.index c.loop-index.caller c.index_mut.result.now (search rules) c.index_mut.ensures.value c.loop-index.invariant

pub loop-index-preserved : goal.loop-index-preserved
loop-index-preserved g c =
    goes_on c.args.task.now.amend.now (view c.args.caller.now) c.args.slots.now.items c.loop-index.slots.items c.loop-index.index c.loop-index.caller c.fill.new.caller c.index_mut.result.now c.fill.new.slot (search rules)
    c.index_mut.ensures.value c.loop-index.invariant c.fill.ensures.caller c.fill.ensures.filled
