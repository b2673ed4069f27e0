use Rattle.std.proofs.Common.{◌<◌, List, length, get_or, sym, ap, subst, ◌∙◌, arith}
use Rattle.mr_image.specs.Images.{mended, image_of, place}
use Rattle.mr_mend.proofs.Answering.{level-low, level-symbol}
use Rattle.mr_mend.proofs.Places.{is_put}
use Rattle.mr_model.specs.Plans.{Recipe}
use Rattle.mr_plan.specs.PlanLists.{recipes_at}
use Rattle.mr_plan.specs.Plans.{PlanParts}
use Rattle.mr_plan.proofs.PlanListLaws.{own_recipes}
use Rattle.mr_ready.proofs.PlaceLaws.{own-symbol, put-all, put-turn, symbol-low}
use Rattle.mr_ready.proofs.placing.put_stripe.Goals as goal

pub copy_out-requires-clause-level : goal.copy_out-requires-clause-level
copy_out-requires-clause-level c =
    subst (λ (ps : List PlanParts). c.loop-level.level < length (recipes_at ps 0)) (sym c.requires.board.plans_are)
    (level-low c.args.order.now.plans c.at.result.now c.recipes-recipe-items.result.now c.args.stripe c.loop-level.level c.at.ensures.plans c.at.ensures.plan c.recipes-recipe-items.ensures.all c.loop-level-test.true)

pub loop-level-preserved : goal.loop-level-preserved
loop-level-preserved c =
    let head = c.args.order.now.head in
    let plans = c.args.order.now.plans in
    let own = own_recipes plans c.args.stripe c.at.result.now c.recipes-recipe-items.result.now c.at.ensures.plan c.recipes-recipe-items.ensures.all in
    let here : c.loop-level.level < length (recipes_at plans c.args.stripe) = omega (arith, c.loop-level-test.true, ap length own) in
    let is = c.recipe-item.is ∙ ap (λ (rs : List Recipe). get_or rs c.loop-level.level c.recipe-item.result) own in (
      put-turn c.args.board.now head plans c.args.stripe c.loop-level.level c.recipe-item.result c.copy_out.new.dst c.args.image.now c.loop-level.image _ c.requires.plans here is c.loop-level.invariant.0
          (is_put head c.args.stripe c.recipe-item.result.symbol c.place-at.result _ c.copy_out.new.dst c.loop-level.image c.requires.stripe
          (symbol-low head plans c.args.stripe c.loop-level.level c.recipe-item.result c.requires.plans here is) (omega arith)
          (c.place-at.ensures.place ∙ ap (place head c.args.stripe) c.symbol.ensures) (omega arith) (omega arith))
          (λ bytes board. c.copy_out.ensures.mended head plans bytes board
          ∙ ap (mended head (recipes_at plans) (image_of head bytes) c.args.stripe)
          (level-symbol plans c.at.result.now c.recipes-recipe-items.result.now c.args.stripe c.loop-level.level c.recipe-item.result.symbol c.at.ensures.plans c.at.ensures.plan c.recipes-recipe-items.ensures.all
          (own-symbol c.recipes-recipe-items.result.now c.loop-level.level c.recipe-item.result c.loop-level-test.true c.recipe-item.is))),
      c.copy_out.ensures.pass,
      c.copy_out.ensures.same ∙ c.loop-level.invariant.2,
    )

pub returns-clause-put : goal.returns-clause-put
returns-clause-put c =
    let own = own_recipes c.args.order.now.plans c.args.stripe c.at.result.now c.recipes-recipe-items.result.now c.at.ensures.plan c.recipes-recipe-items.ensures.all in
    put-all c.args.board.now c.args.order.now.head c.args.order.now.plans c.args.stripe c.loop-level.level c.args.image.now c.loop-level.image (omega (arith, c.loop-level-test.false, ap length own)) c.loop-level.invariant.0
