use Rattle.std.proofs.Common.{◌+◌, length, arith}
use Rattle.mr_model.specs.Members.{members}
use Rattle.mr_search.proofs.HireLaws.{gathering-first, gathering-next, gathering-all}
use Rattle.mr_search.proofs.layers.gather.Goals as goal

pub loop-place-init : goal.loop-place-init
loop-place-init c = gathering-first c.args.task.now.bound.now c.args.task.now.layer.now (length (members c.args.task.now.equations.now.targets) + 1) c.args.crew.now c.args.seat.now c.requires.seat.0 c.requires.seat.1 c.requires.shares

pub loop-place-preserved : goal.loop-place-preserved
loop-place-preserved c =
    gathering-next c.args.task.now.bound.now c.args.task.now.layer.now (length (members c.args.task.now.equations.now.targets) + 1) c.args.crew.now c.loop-place.crew c.loop-place.place c.loop-place.seat c.loop-place.invariant c.requires.done c.index-crew-place.result
    (omega (arith, c.loop-place-test.true, c.loop-place.auto.crew))
    c.join.new.seat c.in_ok-other.other c.leave.new.self c.in_ok-other.ensures.seat c.in_ok-other.ensures.worked c.in_ok-other.ensures.none c.in_ok-other.ensures.rows
    c.join.ensures.seat c.join.ensures.joined c.join.ensures.whole

pub returns-clause-idle : goal.returns-clause-idle
returns-clause-idle c k d less = c.loop-place.invariant.idle k d (omega (arith, less, c.loop-place.auto.crew, c.loop-place-test.false)) less

pub returns-clause-rows : goal.returns-clause-rows
returns-clause-rows c k d less = c.loop-place.invariant.rows k d

pub returns-clause-worked : goal.returns-clause-worked
returns-clause-worked c k d less = c.loop-place.invariant.worked k d (omega (arith, less, c.loop-place-test.false)) less

pub returns-clause-covers : goal.returns-clause-covers
returns-clause-covers c = gathering-all c.args.task.now.bound.now c.args.task.now.layer.now (length (members c.args.task.now.equations.now.targets) + 1) c.args.crew.now c.loop-place.crew c.loop-place.place c.loop-place.seat c.loop-place.invariant
    (omega (arith, c.loop-place-test.false)) c.requires.some c.requires.chunks
