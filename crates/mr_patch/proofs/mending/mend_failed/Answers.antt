use Rattle.std.proofs.Common.{◌≡◌, ◌*◌, length, arith, refl, sym, ◌∙◌, ap, eqb-true}
use Rattle.mr_io.specs.Sights.{sight_with}
use Rattle.mr_cache.specs.Cache.{budget_of}
use Rattle.mr_model.specs.Members.{members}
use Rattle.mr_patch.specs.Damages.{failed_at, parts_of, set_reads}
use Rattle.mr_patch.proofs.CachePlans.{front-some, same-cache}
use Rattle.mr_patch.proofs.MendSteps.{found-lost, found-mendable, found-ok, found-recipes, found-rotation, found-set, walked-failed}
use Rattle.mr_patch.proofs.MendTurns.{mended-all, mended-skip, mended-start, mended-turn}
use Rattle.mr_patch.proofs.StripePlans.{none-read}
use Rattle.mr_patch.proofs.Walking.{walking-start, walking-turn}
use Rattle.mr_patch.proofs.mending.mend_failed.Goals as goal

pub loop-stripe-init : goal.loop-stripe-init
loop-stripe-init g c = (
  mended-start (parts_of c.args.patching.now.damage) (budget_of c.args.cache.now) (g.E.Eye.sight c.args.eye.now) (g.E.Eye.faults c.args.eye.now) c.args.image.now 0 refl,
  walking-start c.args.patching.now.damage.head.now c.args.patching.now.damage.lost c.args.patching.now.damage.sectors.now c.stripes-stripe-end.ensures.limits.few_symbols c.requires.damage.sectors,
  record { code = refl; budget = refl; cap = refl },
)

pub next_pattern-failed-requires-clause-symbols : goal.next_pattern-failed-requires-clause-symbols
next_pattern-failed-requires-clause-symbols g c = c.loop-stripe.invariant.1.symbols

pub next_pattern-failed-requires-clause-upwards : goal.next_pattern-failed-requires-clause-upwards
next_pattern-failed-requires-clause-upwards g c = c.loop-stripe.invariant.1.upwards

pub loop-stripe-preserved-then-is_empty : goal.loop-stripe-preserved-then-is_empty
loop-stripe-preserved-then-is_empty g c =
    let none : failed_at (parts_of c.args.patching.now.damage) c.loop-stripe.stripe ≡ 0 = sym (walked-failed (parts_of c.args.patching.now.damage) c.loop-stripe.left.now c.loop-stripe.stripe c.next_pattern-failed.result.0 c.loop-stripe.invariant.1 c.next_pattern-failed.ensures.set) ∙ eqb-true c.next_pattern-failed.result.0 0 (sym c.is_empty.ensures ∙ c.if-is_empty.true) in (
      mended-skip (parts_of c.args.patching.now.damage) (budget_of c.args.cache.now) (g.E.Eye.sight c.args.eye.now) (g.E.Eye.faults c.args.eye.now) c.args.image.now c.loop-stripe.stripe c.loop-stripe.reads
          (g.E.Eye.faults c.loop-stripe.eye) (g.E.Eye.sight c.loop-stripe.eye) c.loop-stripe.image none
          (none-read (parts_of c.args.patching.now.damage) c.stripes-stripe-end.ensures.limits c.shape-within_the_limits.ensures.code c.requires.damage c.requires.determined (budget_of c.args.cache.now) c.loop-stripe.stripe (omega arith) none)
          c.loop-stripe.invariant.0,
      (walking-turn c.args.patching.now.damage.sectors.now c.loop-stripe.left.now c.next_pattern-failed.result.1.now c.loop-stripe.stripe c.loop-stripe.invariant.1
          c.next_pattern-failed.ensures.symbols c.next_pattern-failed.ensures.upwards c.next_pattern-failed.ensures.later),
      c.loop-stripe.invariant.2,
    )

pub pattern_of-requires : goal.pattern_of-requires
pattern_of-requires g c = (walked-failed (parts_of c.args.patching.now.damage) c.loop-stripe.left.now c.loop-stripe.stripe c.next_pattern-failed.result.0 c.loop-stripe.invariant.1 c.next_pattern-failed.ensures.set)

pub find_plan-requires-clause-rotation : goal.find_plan-requires-clause-rotation
find_plan-requires-clause-rotation g c = found-rotation (parts_of c.args.patching.now.damage) c.stripes-stripe-end.ensures.limits c.shape-within_the_limits.ensures.code c.requires.damage c.requires.determined c.loop-stripe.stripe (omega arith) c.args.cache.now c.loop-stripe.cache c.requires.matrix c.loop-stripe.invariant.2 c.pattern_of.result c.pattern_of.ensures

pub find_plan-requires-clause-lost : goal.find_plan-requires-clause-lost
find_plan-requires-clause-lost g c = found-lost (parts_of c.args.patching.now.damage) c.stripes-stripe-end.ensures.limits c.shape-within_the_limits.ensures.code c.requires.damage c.requires.determined c.loop-stripe.stripe (omega arith) c.args.cache.now c.loop-stripe.cache c.requires.matrix c.loop-stripe.invariant.2 c.pattern_of.result c.pattern_of.ensures

pub find_plan-requires-clause-planned : goal.find_plan-requires-clause-planned
find_plan-requires-clause-planned g c = found-ok (parts_of c.args.patching.now.damage) c.stripes-stripe-end.ensures.limits c.shape-within_the_limits.ensures.code c.requires.damage c.requires.determined c.loop-stripe.stripe (omega arith) c.args.cache.now c.loop-stripe.cache c.requires.matrix c.loop-stripe.invariant.2 c.pattern_of.result c.pattern_of.ensures

pub front-requires : goal.front-requires
front-requires g c = front-some c.find_plan.new.cache c.pattern_of.result c.in_ok-find_plan.ensures.front

pub mend_planned-requires-clause-plan : goal.mend_planned-requires-clause-plan
mend_planned-requires-clause-plan g c = found-mendable (parts_of c.args.patching.now.damage) c.stripes-stripe-end.ensures.limits c.shape-within_the_limits.ensures.code c.requires.damage c.requires.determined c.loop-stripe.stripe (omega arith) c.args.cache.now c.loop-stripe.cache c.requires.matrix c.loop-stripe.invariant.2 c.pattern_of.result c.pattern_of.ensures c.find_plan.new.cache c.in_ok-find_plan.ensures.same c.in_ok-find_plan.ensures.front c.front.result.now c.front.ensures

pub loop-stripe-preserved : goal.loop-stripe-preserved
loop-stripe-preserved g c = (
  mended-turn (parts_of c.args.patching.now.damage) (budget_of c.args.cache.now) (g.E.Eye.sight c.args.eye.now) (g.E.Eye.faults c.args.eye.now) c.args.image.now c.loop-stripe.stripe c.loop-stripe.reads _
      c.front.result.now.set (g.E.Eye.faults c.loop-stripe.eye) (g.E.Eye.faults c.mend_planned.new.eye) c.front.result.now.recipes
      (g.E.Eye.sight c.loop-stripe.eye) (g.E.Eye.sight c.mend_planned.new.eye) c.loop-stripe.image c.mend_planned.new.image
      (found-set (parts_of c.args.patching.now.damage) c.stripes-stripe-end.ensures.limits c.shape-within_the_limits.ensures.code c.requires.damage c.requires.determined c.loop-stripe.stripe (omega arith) c.args.cache.now c.loop-stripe.cache c.requires.matrix c.loop-stripe.invariant.2 c.pattern_of.result c.pattern_of.ensures c.find_plan.new.cache c.in_ok-find_plan.ensures.same c.in_ok-find_plan.ensures.front c.front.result.now c.front.ensures)
      (found-recipes (parts_of c.args.patching.now.damage) c.stripes-stripe-end.ensures.limits c.shape-within_the_limits.ensures.code c.requires.damage c.requires.determined c.loop-stripe.stripe (omega arith) c.args.cache.now c.loop-stripe.cache c.requires.matrix c.loop-stripe.invariant.2 c.pattern_of.result c.pattern_of.ensures c.find_plan.new.cache c.in_ok-find_plan.ensures.same c.in_ok-find_plan.ensures.front c.front.result.now c.front.ensures)
      c.loop-stripe.invariant.0 c.in_ok-mend_planned.ensures.mended c.in_ok-mend_planned.ensures.kept c.in_ok-mend_planned.ensures.taken c.in_ok-mend_planned.ensures.quiet
      (omega (arith, c.count.ensures.listed, ap (λ x. length (members x)) c.set.ensures)),
  (walking-turn c.args.patching.now.damage.sectors.now c.loop-stripe.left.now c.next_pattern-failed.result.1.now c.loop-stripe.stripe c.loop-stripe.invariant.1
      c.next_pattern-failed.ensures.symbols c.next_pattern-failed.ensures.upwards c.next_pattern-failed.ensures.later),
  same-cache c.args.cache.now c.loop-stripe.cache c.find_plan.new.cache c.loop-stripe.invariant.2 c.in_ok-find_plan.ensures.same,
)

pub returns-clause-mended : goal.returns-clause-mended
returns-clause-mended g c =
    mended-all (parts_of c.args.patching.now.damage) (budget_of c.args.cache.now) (g.E.Eye.sight c.args.eye.now) (g.E.Eye.faults c.args.eye.now) c.args.image.now c.loop-stripe.stripe c.loop-stripe.reads
    (g.E.Eye.faults c.loop-stripe.eye) (g.E.Eye.sight c.loop-stripe.eye) c.loop-stripe.image (omega arith) c.loop-stripe.invariant.0

pub returns-clause-reads : goal.returns-clause-reads
returns-clause-reads g c =
    let all : c.loop-stripe.stripe ≡ c.args.patching.now.damage.head.now.stripes = omega arith in
    c.loop-stripe.invariant.0.reads_are ∙ ap (set_reads (parts_of c.args.patching.now.damage) (budget_of c.args.cache.now)) all

pub returns-clause-taken : goal.returns-clause-taken
returns-clause-taken g c =
    let all : c.loop-stripe.stripe ≡ c.args.patching.now.damage.head.now.stripes = omega arith in
    c.loop-stripe.invariant.0.taken
    ∙ ap (λ n. sight_with (g.E.Eye.sight c.args.eye.now) (set_reads (parts_of c.args.patching.now.damage) (budget_of c.args.cache.now) n * c.args.patching.now.damage.head.now.symbol_bytes)) all
