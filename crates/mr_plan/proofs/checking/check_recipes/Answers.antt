use Rattle.std.proofs.Common.{Err, ap, ◌∙◌, ◌+◌, drop}
use Rattle.std.proofs.lemmas.Result.{err_from_is_err_and}
use Rattle.mr_plan.specs.Checks.{recipe_fault, recipes_fault}
use Rattle.mr_plan.proofs.CheckLaws.{stops, goes, recipes-turn, recipes-end}
use Rattle.mr_plan.proofs.checking.check_recipes.Goals as goal

pub returns-in_err-check_recipe : goal.returns-in_err-check_recipe
returns-in_err-check_recipe c =
    let p = err_from_is_err_and c.from_residual.result c.from_residual.ensures.1 in
    p.1 ∙ ap Err p.2 ∙ stops _ _ (recipe_fault c.args.matrix.now c.args.set c.recipe-item.result) (recipes_fault c.args.matrix.now c.args.set (drop (c.loop-recipe.recipe-index + 1) c.args.recipes.now))
    c.loop-recipe.invariant (recipes-turn c.args.matrix.now c.args.set c.args.recipes.now c.loop-recipe.recipe-index c.recipe-item.result c.loop-recipe-test.true c.recipe-item.is)
    _ c.in_err-check_recipe.ensures

pub loop-recipe-preserved : goal.loop-recipe-preserved
loop-recipe-preserved c =
    goes _ _ (recipe_fault c.args.matrix.now c.args.set c.recipe-item.result) (recipes_fault c.args.matrix.now c.args.set (drop (c.loop-recipe.recipe-index + 1) c.args.recipes.now))
    c.loop-recipe.invariant (recipes-turn c.args.matrix.now c.args.set c.args.recipes.now c.loop-recipe.recipe-index c.recipe-item.result c.loop-recipe-test.true c.recipe-item.is)
    _ c.in_ok-check_recipe.ensures

pub returns : goal.returns
returns c = recipes-end c.args.matrix.now c.args.set c.loop-recipe.recipe-index c.args.recipes.now c.loop-recipe-test.false c.loop-recipe.invariant
