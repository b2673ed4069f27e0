use Rattle.std.proofs.Common.{rules, ◌≡◌, length, sym, ap, subst, ◌∙◌}
use Rattle.mr_plan.specs.PlanLists.{ArePlans, recipes_at}
use Rattle.mr_plan.proofs.PlanListLaws.{own_recipes, plans-one}
use Rattle.mr_board_calls.proofs.Small.{small-is}
use Rattle.mr_board_calls.proofs.tests.small_board.Goals as goal

pub new-plans-requires : goal.new-plans-requires
new-plans-requires g c = subst ArePlans (sym c.in_ok-vec.ensures.items) (plans-one c.expect-plan.result)

pub returns-clause-board : goal.returns-clause-board
returns-clause-board g c =
    let head = c.expect-head.result in
    let plans = c.new-plans.result in
    let own = own_recipes plans 0 c.at.result.now c.recipes.result.now c.at.ensures.plan c.recipes.ensures.all in
    let bytes : head.symbol_bytes ≡ 8 = search rules in
    let stripes : head.stripes ≡ c.args.stripes = search rules in
    let two : length c.recipes.result.now ≡ 2 = search rules in
    small-is c.in_ok-new.field-0.0 head plans c.args.stripes c.in_ok-new.ensures.board bytes stripes
    (ap length (sym own) ∙ two)
