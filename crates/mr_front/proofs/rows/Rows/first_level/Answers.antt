use Rattle.std.proofs.Common.{arith, refl}
use Rattle.mr_front.proofs.ScanLaws.{in-level, late-level, scanned-first, scanned-next, scanned-found}
use Rattle.mr_front.proofs.rows.Rows.first_level.Goals as goal

pub loop-level-init : goal.loop-level-init
loop-level-init c = scanned-first c.args.equations.now c.args.most c.args.self.now c.args.cost c.requires.least c.requires.late

pub loop-level-preserved : goal.loop-level-preserved
loop-level-preserved c =
    scanned-next c.args.equations.now c.args.most c.args.self.now c.loop-level.self c.recall.new.self c.args.cost c.loop-level.level c.loop-level.invariant
    c.recall.ensures.count c.in_ok-recall.ensures.lost c.in_ok-recall.ensures.late (c.if-has.ensures.none refl)

pub returns-then-has-clause-first : goal.returns-then-has-clause-first
returns-then-has-clause-first c =
    scanned-found c.args.equations.now c.args.most c.args.self.now c.loop-level.self c.recall.new.self c.args.cost c.loop-level.level c.loop-level.invariant
    c.recall.ensures.count c.in_ok-recall.ensures.lost c.in_ok-recall.ensures.late (c.if-has.ensures.some refl)

pub returns-clause-nothing : goal.returns-clause-nothing
returns-clause-nothing c i u h =
    let low = in-level c.args.equations.now c.loop-level.self i u h in
    c.loop-level.invariant.least_here i u (omega (arith, low, c.loop-level.invariant.count, c.requires.count, c.loop-level-test.false, c.from-level-end.ensures)) h

pub returns-clause-late : goal.returns-clause-late
returns-clause-late c k m v h =
    let low = late-level c.loop-level.self k m v h in
    c.loop-level.invariant.late_here k m v (omega (arith, low, c.loop-level.invariant.count, c.requires.count, c.loop-level-test.false, c.from-level-end.ensures)) h
