use Rattle.std.proofs.Common.{rules, ◌≤◌, ◌*◌, ◌/◌, ◌^◌, ◌<◌, length, refl, sym, subst, ℕ}
use Rattle.mr_board.proofs.Sizes.{few-recipes, few-in-stripe, few-in-all, words-are}
use Rattle.mr_board.proofs.board.words_of_stripe.Goals as goal

pub overflow_cast-result : goal.overflow_cast-result
overflow_cast-result c =
    let few : length c.recipes.result.now ≤ 128 =
    few-recipes c.at.result.now.recipes c.recipes.result.now c.recipes.ensures.all c.recipes.ensures.in_range.recipes in
    search rules

pub overflow_mul-result : goal.overflow_mul-result
overflow_mul-result c =
    let few : length c.recipes.result.now ≤ 128 =
    few-recipes c.at.result.now.recipes c.recipes.result.now c.recipes.ensures.all c.recipes.ensures.in_range.recipes in
    let all : length c.recipes.result.now * (c.bytes.result / 8) ≤ 128 * 8192 =
    subst (λ (b : ℕ). length c.recipes.result.now * (b / 8) ≤ 128 * 8192) (sym c.bytes.ensures.number)
    (few-in-stripe c.args.head.now c.bytes.ensures.limits (length c.recipes.result.now) few) in
    search rules

pub returns-clause-count : goal.returns-clause-count
returns-clause-count c =
    words-are c.args.head.now c.args.plans.now c.at.result.now c.recipes.result.now (length c.recipes.result.now) c.bytes.result
    c.at.ensures.plan c.recipes.ensures.all refl c.bytes.ensures.number

pub returns-clause-few : goal.returns-clause-few
returns-clause-few c =
    let few : length c.recipes.result.now ≤ 128 =
    few-recipes c.at.result.now.recipes c.recipes.result.now c.recipes.ensures.all c.recipes.ensures.in_range.recipes in
    subst (λ (b : ℕ). length c.recipes.result.now * (b / 8) ≤ 128 * 8192) (sym c.bytes.ensures.number)
    (few-in-stripe c.args.head.now c.bytes.ensures.limits (length c.recipes.result.now) few)

pub returns-clause-few_in_all : goal.returns-clause-few_in_all
returns-clause-few_in_all c =
    let few : length c.recipes.result.now ≤ 128 =
    few-recipes c.at.result.now.recipes c.recipes.result.now c.recipes.ensures.all c.recipes.ensures.in_range.recipes in
    subst (λ (b : ℕ). c.args.head.now.stripes * (length c.recipes.result.now * (b / 8)) < 2 ^ 33) (sym c.bytes.ensures.number)
    (few-in-all c.args.head.now c.bytes.ensures.limits (length c.recipes.result.now) few)
