use Rattle.std.proofs.Common.{◌<◌, ◌+◌, ◌∙◌, length, sym, subst, arith}
use Rattle.std.specs.Prelude.{slice_index_or}
use Rattle.mr_model.specs.Members.{members}
use Rattle.mr_front.specs.Rows.{LateIn}
use Rattle.mr_search.specs.declared.worker.Worker.{Worker}
use Rattle.mr_search.proofs.CrewLaws.{one-late, same-was, taking-first, taking-next, taking-taken, taking-rest}
use Rattle.mr_search.proofs.crew.take_lists.Goals as goal

pub loop-place-init : goal.loop-place-init
loop-place-init c =
    let p = c.args.inputs.now.equations.now in
    taking-first p (length (members p.targets) + 1) c.args.crew.now c.args.cost c.args.level c.args.list.now.items c.requires.idle

pub take-requires-clause-level : goal.take-requires-clause-level
take-requires-clause-level c =
    let low : c.loop-place.place < length c.loop-place.crew = omega (arith, c.loop-place-test.true, c.loop-place.auto.crew) in
    omega (arith, c.requires.level, (c.loop-place.invariant.idle c.loop-place.place c.index-crew-place.result low).has_rows)

pub take-requires-clause-made : goal.take-requires-clause-made
take-requires-clause-made c k m v same there =
    let p = c.args.inputs.now.equations.now in
    let n = length (members p.targets) + 1 in
    let old = c.args.crew.now in
    let now = c.loop-place.crew in
    let place = c.loop-place.place in
    let d = c.index-crew-place.result in
    let low : place < length now = omega (arith, c.loop-place-test.true, c.loop-place.auto.crew) in
    let h = c.loop-place.invariant in
    c.requires.made k m v same (one-late old place d (omega (arith, low, h.same)) k m v
    (subst (λ (w : Worker). LateIn w.rows k m v) (sym (same-was p n old now c.args.cost c.args.level place c.args.list.now.items c.loop-place.list.items h d low d)) there))

pub loop-place-preserved : goal.loop-place-preserved
loop-place-preserved c =
    let p = c.args.inputs.now.equations.now in
    let n = length (members p.targets) + 1 in
    let now = c.loop-place.crew in
    let place = c.loop-place.place in
    let d = c.index-crew-place.result in
    let low : place < length now = omega (arith, c.loop-place-test.true, c.loop-place.auto.crew) in
    let h = c.loop-place.invariant in
    let w : Worker = slice_index_or now place d in
    let idle = h.idle place d low in
    taking-next p n c.args.crew.now now c.args.cost c.args.level place c.args.list.now.items c.loop-place.list.items h d low
    (record { seat = w.seat; rows = c.take.new.self; key = w.key; outcome = w.outcome }) c.take.new.list.items
    (record { no_seat = idle.no_seat; has_rows = c.take.ensures.count ∙ idle.has_rows }) c.in_ok-take.ensures.taken c.in_ok-take.ensures.rest

pub returns-clause-idle : goal.returns-clause-idle
returns-clause-idle c = c.loop-place.invariant.idle

pub returns-clause-taken : goal.returns-clause-taken
returns-clause-taken c =
    let p = c.args.inputs.now.equations.now in
    taking-taken p (length (members p.targets) + 1) c.args.crew.now c.loop-place.crew c.args.cost c.args.level c.loop-place.place c.args.list.now.items c.loop-place.list.items c.loop-place.invariant
    (omega (arith, c.loop-place-test.false))

pub returns-clause-rest : goal.returns-clause-rest
returns-clause-rest c =
    let p = c.args.inputs.now.equations.now in
    taking-rest p (length (members p.targets) + 1) c.args.crew.now c.loop-place.crew c.args.cost c.args.level c.loop-place.place c.args.list.now.items c.loop-place.list.items c.loop-place.invariant
    (omega (arith, c.loop-place-test.false))
