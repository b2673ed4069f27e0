use Rattle.std.proofs.Common.{◌≡◌, ◌^◌, ◌<◌, length, arith, sym, subst, ◌∙◌, ap}
use Rattle.std.proofs.lemmas.Result.{err_from_is_err_and}
use Rattle.mr_cache.specs.declared.patterns.Pattern.{Pattern}
use Rattle.mr_patch.specs.Damages.{parts_of}
use Rattle.mr_patch.proofs.MendSteps.{walked-failed}
use Rattle.mr_patch.proofs.StripePlans.{rotation-low}
use Rattle.mr_patch.proofs.Walking.{walking-start, walking-turn}
use Rattle.mr_survey.specs.Surveys.{in_stripe, undetermined_in}
use Rattle.mr_survey.proofs.KnownLaws.{known-first}
use Rattle.mr_survey.proofs.SurveyLaws.{first-found, found-at, none-determined, none-first, none-more, pattern-open, pattern-low}
use Rattle.mr_survey.proofs.surveying.survey.Goals as goal

pub loop-stripe-init : goal.loop-stripe-init
loop-stripe-init c = (
  none-first (parts_of c.args.damage.now),
  walking-start c.args.damage.now.head.now c.args.damage.now.lost c.args.damage.now.sectors.now c.stripes-stripe-end.ensures.limits.few_symbols c.requires.sectors,
  known-first c.args.damage.now.matrix.now c.shape-within_the_limits.ensures.code,
)

pub next_pattern-failed-requires-clause-symbols : goal.next_pattern-failed-requires-clause-symbols
next_pattern-failed-requires-clause-symbols c = c.loop-stripe.invariant.1.symbols

pub next_pattern-failed-requires-clause-upwards : goal.next_pattern-failed-requires-clause-upwards
next_pattern-failed-requires-clause-upwards c = c.loop-stripe.invariant.1.upwards

pub pattern_of-pattern-requires : goal.pattern_of-pattern-requires
pattern_of-pattern-requires c = walked-failed (parts_of c.args.damage.now) c.loop-stripe.left.now c.loop-stripe.stripe c.next_pattern-failed.result.0 c.loop-stripe.invariant.1 c.next_pattern-failed.ensures.set

pub look_once-requires-clause-rotation : goal.look_once-requires-clause-rotation
look_once-requires-clause-rotation c = subst (λ (p : Pattern). p.rotation < c.args.damage.now.matrix.now.devices) (sym c.pattern_of-pattern.ensures)
    (rotation-low (parts_of c.args.damage.now) c.shape-within_the_limits.ensures.code c.requires c.loop-stripe.stripe)

pub look_once-requires-clause-lost : goal.look_once-requires-clause-lost
look_once-requires-clause-lost c = subst (λ (p : Pattern). p.lost < 2 ^ length c.args.damage.now.matrix.now.rows) (sym c.pattern_of-pattern.ensures)
    (pattern-low (parts_of c.args.damage.now) c.shape-within_the_limits.ensures.code c.requires c.loop-stripe.stripe)

pub returns-in_err-look_once-clause-undetermined : goal.returns-in_err-look_once-clause-undetermined
returns-in_err-look_once-clause-undetermined c =
    let p = err_from_is_err_and c.from_residual.result c.from_residual.ensures.1 in
    rw (p.1, p.2) (first-found (parts_of c.args.damage.now) _ (found-at (parts_of c.args.damage.now) c.loop-stripe.stripe c.args.damage.now.head.now.stripes _ (omega arith) c.loop-stripe.invariant.0
    (ap (in_stripe c.loop-stripe.stripe) (sym (pattern-open (parts_of c.args.damage.now) c.shape-within_the_limits.ensures.code c.requires c.loop-stripe.stripe c.pattern_of-pattern.result c.pattern_of-pattern.ensures))
    ∙ c.in_err-look_once.ensures.fault)))

pub returns-in_err-look_once-clause-found : goal.returns-in_err-look_once-clause-found
returns-in_err-look_once-clause-found c =
    let p = err_from_is_err_and c.from_residual.result c.from_residual.ensures.1 in
    rw (p.1, p.2) (found-at (parts_of c.args.damage.now) c.loop-stripe.stripe c.args.damage.now.head.now.stripes _ (omega arith) c.loop-stripe.invariant.0
    (ap (in_stripe c.loop-stripe.stripe) (sym (pattern-open (parts_of c.args.damage.now) c.shape-within_the_limits.ensures.code c.requires c.loop-stripe.stripe c.pattern_of-pattern.result c.pattern_of-pattern.ensures))
    ∙ c.in_err-look_once.ensures.fault))

pub loop-stripe-preserved : goal.loop-stripe-preserved
loop-stripe-preserved c = (
  none-more (parts_of c.args.damage.now) c.loop-stripe.stripe c.loop-stripe.invariant.0
      (sym (pattern-open (parts_of c.args.damage.now) c.shape-within_the_limits.ensures.code c.requires c.loop-stripe.stripe c.pattern_of-pattern.result c.pattern_of-pattern.ensures)
      ∙ c.in_ok-look_once.ensures.determined),
  walking-turn c.args.damage.now.sectors.now c.loop-stripe.left.now c.next_pattern-failed.result.1.now c.loop-stripe.stripe c.loop-stripe.invariant.1
      c.next_pattern-failed.ensures.symbols c.next_pattern-failed.ensures.upwards c.next_pattern-failed.ensures.later,
  c.in_ok-look_once.ensures.known,
)

pub returns-clause-determined : goal.returns-clause-determined
returns-clause-determined c =
    let all : c.args.damage.now.head.now.stripes ≡ c.loop-stripe.stripe = omega arith in
    none-determined (parts_of c.args.damage.now) c.requires (ap (undetermined_in (parts_of c.args.damage.now)) all ∙ c.loop-stripe.invariant.0)

pub returns-clause-none : goal.returns-clause-none
returns-clause-none c =
    let all : c.args.damage.now.head.now.stripes ≡ c.loop-stripe.stripe = omega arith in
    ap (undetermined_in (parts_of c.args.damage.now)) all ∙ c.loop-stripe.invariant.0
