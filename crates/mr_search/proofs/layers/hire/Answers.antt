use Rattle.std.proofs.Common.{◌<◌, ◌+◌, length, arith}
use Rattle.mr_bound.specs.Seats.{seat_view}
use Rattle.mr_model.specs.Members.{members}
use Rattle.mr_search.proofs.HireLaws.{hiring-first, hiring-next}
use Rattle.mr_search.proofs.layers.hire.Goals as goal

pub loop-place-init : goal.loop-place-init
loop-place-init c = hiring-first c.args.task.now.bound.now (length (members c.args.task.now.equations.now.targets) + 1) c.args.crew.now c.args.seat.now c.requires.seat c.requires.fresh c.requires.left c.requires.parts c.requires.idle

pub split-split-requires-clause-seat : goal.split-split-requires-clause-seat
split-split-requires-clause-seat c = c.loop-place.invariant.of_bound

pub split-split-requires-clause-left : goal.split-split-requires-clause-left
split-split-requires-clause-left c = omega (arith, c.loop-place.invariant.more, c.loop-place-test.true, c.requires.workers)

pub loop-place-preserved : goal.loop-place-preserved
loop-place-preserved c =
    let left : 0 < (seat_view c.loop-place.seat).left = omega (arith, c.loop-place.invariant.more, c.loop-place-test.true, c.requires.workers) in
    hiring-next c.args.task.now.bound.now (length (members c.args.task.now.equations.now.targets) + 1) c.args.crew.now c.loop-place.crew c.loop-place.place c.loop-place.seat c.loop-place.invariant c.index-crew-place.result
    (omega (arith, c.loop-place-test.true, c.loop-place.auto.crew)) left
    c.split-split.new.seat c.split-split.result c.begin.new.self c.split-split.ensures.seat c.split-split.ensures.kept c.split-split.ensures.other c.split-split.ensures.part c.begin.ensures.seat c.begin.ensures.rows

pub returns-clause-ready : goal.returns-clause-ready
returns-clause-ready c k d less = c.loop-place.invariant.ready k d (omega (arith, less, c.loop-place.auto.crew, c.loop-place-test.false)) less
