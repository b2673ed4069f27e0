use Rattle.std.proofs.Common.{◌≡◌, ◌<◌, List, length, get_or, ap, sym, subst, ◌∙◌, arith}
use Rattle.std.specs.Int.{bit_at}
use Rattle.mr_model.specs.Plans.{Recipe}
use Rattle.mr_image.specs.Images.{stripe_symbols, xor_symbols}
use Rattle.mr_kept.specs.Kept.{all_symbols, with_symbol_at}
use Rattle.mr_kept.proofs.MendLaws.{mended-start, mended-turn, mended-all, recipe-low, recipe-small, recipe-apart}
use Rattle.mr_kept.proofs.keepers.Keeper.mend_by.Goals as goal

pub loop-recipe-init : goal.loop-recipe-init
loop-recipe-init g c = mended-start c.args.self.now.head.now c.args.plan.now.recipes c.args.bytes.now

pub mend_symbol-requires-clause-number : goal.mend_symbol-requires-clause-number
mend_symbol-requires-clause-number g c =
    let all = c.recipes-recipe-items.ensures.all in
    let low : c.loop-recipe.recipe-index < length c.args.plan.now.recipes = subst (λ (rs : List Recipe). c.loop-recipe.recipe-index < length rs) all c.loop-recipe-test.true in
    let is : c.recipe-item.result ≡ get_or c.args.plan.now.recipes c.loop-recipe.recipe-index c.recipe-item.result = c.recipe-item.is ∙ ap (λ (rs : List Recipe). get_or rs c.loop-recipe.recipe-index c.recipe-item.result) all in
    subst (λ t. t < stripe_symbols c.args.self.now.head.now) (sym c.symbol.ensures)
    (recipe-low c.args.self.now.head.now c.args.plan.now c.requires.plan c.args.bytes.now c.requires.bytes c.loop-recipe.recipe-index c.recipe-item.result low is)

pub mend_symbol-requires-clause-sources : goal.mend_symbol-requires-clause-sources
mend_symbol-requires-clause-sources g c =
    let all = c.recipes-recipe-items.ensures.all in
    let low : c.loop-recipe.recipe-index < length c.args.plan.now.recipes = subst (λ (rs : List Recipe). c.loop-recipe.recipe-index < length rs) all c.loop-recipe-test.true in
    let is : c.recipe-item.result ≡ get_or c.args.plan.now.recipes c.loop-recipe.recipe-index c.recipe-item.result = c.recipe-item.is ∙ ap (λ (rs : List Recipe). get_or rs c.loop-recipe.recipe-index c.recipe-item.result) all in (
      omega (arith, c.sources.ensures, recipe-small c.args.self.now.head.now c.args.plan.now c.requires.plan c.args.bytes.now c.requires.bytes c.loop-recipe.recipe-index c.recipe-item.result low is),
      (λ j. bit_at (c.sources.ensures j) (c.symbol.ensures j)) ∙ recipe-apart c.args.self.now.head.now c.args.plan.now c.requires.plan c.args.bytes.now c.requires.bytes c.loop-recipe.recipe-index c.recipe-item.result low is,
    )

pub loop-recipe-preserved : goal.loop-recipe-preserved
loop-recipe-preserved g c =
    let all = c.recipes-recipe-items.ensures.all in
    let low : c.loop-recipe.recipe-index < length c.args.plan.now.recipes = subst (λ (rs : List Recipe). c.loop-recipe.recipe-index < length rs) all c.loop-recipe-test.true in
    let is : c.recipe-item.result ≡ get_or c.args.plan.now.recipes c.loop-recipe.recipe-index c.recipe-item.result = c.recipe-item.is ∙ ap (λ (rs : List Recipe). get_or rs c.loop-recipe.recipe-index c.recipe-item.result) all in
    mended-turn c.args.self.now.head.now c.args.plan.now c.requires.plan c.args.bytes.now c.requires.bytes c.loop-recipe.recipe-index c.recipe-item.result low is c.loop-recipe.bytes c.mend_symbol.new.bytes c.loop-recipe.invariant
    (c.mend_symbol.ensures ∙ (λ j. with_symbol_at c.args.self.now.head.now.symbol_bytes (c.symbol.ensures j) c.loop-recipe.bytes (xor_symbols c.args.self.now.head.now.symbol_bytes (all_symbols c.args.self.now.head.now c.loop-recipe.bytes) (c.sources.ensures j))))

pub returns : goal.returns
returns g c =
    let test = c.loop-recipe-test.false in
    let all = ap (λ (rs : List Recipe). length rs) c.recipes-recipe-items.ensures.all in
    mended-all c.args.self.now.head.now c.args.plan.now c.requires.plan c.args.bytes.now c.requires.bytes c.loop-recipe.recipe-index c.loop-recipe.bytes (omega arith) c.loop-recipe.invariant
