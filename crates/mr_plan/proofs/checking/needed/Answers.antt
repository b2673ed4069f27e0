use Rattle.std.proofs.Common.{ap, ◌∙◌}
use Rattle.std.proofs.lemmas.Nat.Bits.{bit_at-zero}
use Rattle.mr_model.specs.Sets.{has}
use Rattle.mr_model.proofs.SetLaws.{has-false}
use Rattle.mr_plan.proofs.CheckLaws.{needed-turn}
use Rattle.mr_plan.proofs.checking.needed.Goals as goal

pub loop-recipe-init : goal.loop-recipe-init
loop-recipe-init c = λ i. has-false 0 i (bit_at-zero i)

pub loop-recipe-preserved : goal.loop-recipe-preserved
loop-recipe-preserved c = λ i. ap (λ u. has u i) c.union-union.ensures
    ∙ needed-turn c.loop-recipe.union c.sources.result i c.loop-recipe.recipe-index c.args.recipes.now c.recipe-item.result c.loop-recipe-test.true c.recipe-item.is c.sources.ensures (c.loop-recipe.invariant i)
