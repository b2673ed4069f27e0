use Rattle.std.proofs.Common.{sym, subst, ◌∙◌, All, ◌<◌, length}
use Rattle.mr_model.specs.Plans.{Recipe}
use Rattle.mr_plan.proofs.CheckLaws.{fault-ok, survivors-within, symbols-below, set-below}
use Rattle.mr_plan.proofs.checking.check_in_order.Goals as goal

pub check_recipes-requires-clause-set : goal.check_recipes-requires-clause-set
check_recipes-requires-clause-set c =
    set-below c.args.matrix.now c.args.lost c.set-set.result (survivors-within c.args.matrix.now c.args.lost c.set-set.result (fault-ok _ _ c.in_ok-check_survivors.ensures))

pub check_recipes-requires-clause-symbols : goal.check_recipes-requires-clause-symbols
check_recipes-requires-clause-symbols c =
    subst (λ rs. All (λ (r : Recipe). r.symbol < length c.args.matrix.now.rows) rs) (c.recipes.ensures.all ∙ sym c.recipes-2.ensures.all)
    (symbols-below c.args.matrix.now c.args.lost c.recipes.result.now c.requires (fault-ok _ _ c.in_ok-check_symbols.ensures))
