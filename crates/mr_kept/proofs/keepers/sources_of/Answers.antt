use Rattle.std.proofs.Common.{ap, sym, ◌∙◌, arith, Some}
use Rattle.std.proofs.lemmas.List.{drop_all}
use Rattle.mr_image.specs.Images.{equation_of}
use Rattle.mr_kept.proofs.RecipeLaws.{search-found, search-on, equation_of-nil}
use Rattle.mr_kept.proofs.keepers.sources_of.Goals as goal

pub returns-then-symbol : goal.returns-then-symbol
returns-then-symbol c =
    let test = c.if-symbol.true in
    let is = c.symbol.ensures in
    ap Some c.sources.ensures ∙ sym (c.loop-recipe.invariant ∙ search-found c.args.recipes.now c.loop-recipe.recipe-index c.recipe-item.result c.loop-recipe-test.true c.recipe-item.is c.args.symbol (omega arith))

pub loop-recipe-preserved : goal.loop-recipe-preserved
loop-recipe-preserved c =
    let test = c.if-symbol.false in
    let is = c.symbol.ensures in
    c.loop-recipe.invariant ∙ search-on c.args.recipes.now c.loop-recipe.recipe-index c.recipe-item.result c.loop-recipe-test.true c.recipe-item.is c.args.symbol (λ e. omega (arith, e))

pub returns : goal.returns
returns c =
    let test = c.loop-recipe-test.false in
    sym (c.loop-recipe.invariant ∙ ap (λ rs. equation_of rs c.args.symbol) (drop_all c.loop-recipe.recipe-index c.args.recipes.now (omega arith)) ∙ equation_of-nil c.args.symbol)
