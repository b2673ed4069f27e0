use Rattle.std.proofs.Common.{sym, ap, arith}
use Rattle.mr_model.specs.Plans.{Recipe}
use Rattle.mr_mend.proofs.CopySets.{stands-has_recipe}
use Rattle.mr_mend.proofs.Levels.{none-has_recipe}
use Rattle.mr_mend.proofs.readers.level_of.Goals as goal

pub returns-then-symbol-clause-lost : goal.returns-then-symbol-clause-lost
returns-then-symbol-clause-lost c = sym
    (stands-has_recipe c.args.recipes.now c.args.symbol c.loop-level.level c.index-recipes-level.result (omega (arith, c.loop-level-test.true))
    (omega (arith, c.symbol.ensures, c.if-symbol.true, ap (λ (r : Recipe). r.symbol) c.index-recipes-level.is)))

pub returns-clause-lost : goal.returns-clause-lost
returns-clause-lost c = sym (none-has_recipe c.args.recipes.now c.args.symbol (λ k d low. c.loop-level.invariant k d (omega (arith, low, c.loop-level-test.false))))
