use Rattle.std.proofs.Common.{rules, ◌≡◌, ◌*◌, ◌≤◌, List, length, vec_len, ap₂, ◌∙◌}
use Rattle.mr_model.specs.Plans.{Recipe}
use Rattle.mr_image.specs.declared.limits.TheConstants.{SYMBOL_LIMIT}
use Rattle.mr_plan.proofs.PlanListLaws.{own_recipes}
use Rattle.mr_mend.proofs.Lists.{recipes-fit}
use Rattle.mr_mend.proofs.rooms.Room.new.Goals as goal

pub overflow_mul-recipes : goal.overflow_mul-recipes
overflow_mul-recipes c =
    let h : length c.recipes.result.now * c.bytes-size.result ≤ 128 * SYMBOL_LIMIT =
    recipes-fit c.at.result.now.recipes c.recipes.result.now c.args.head.now.symbol_bytes c.bytes-size.result c.recipes.ensures.all c.recipes.ensures.in_range.recipes
    c.bytes-size.ensures.number c.bytes-size.ensures.limits.few_bytes in
    search rules

pub returns : goal.returns
returns c =
    let own = own_recipes c.args.plans.now 0 c.at.result.now c.recipes.result.now c.at.ensures.plan c.recipes.ensures.all in
    let size : vec_len c.in_ok-vec-2.field-0 ≡ length c.recipes.result.now * c.bytes-size.result = search rules in
    record {
      symbol = search rules;
      lost = size ∙ ap₂ (λ (xs : List Recipe) m. length xs * m) own c.bytes-size.ensures.number;
    }
