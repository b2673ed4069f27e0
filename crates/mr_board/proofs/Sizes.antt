-- How many words there are.
use Rattle.std.proofs.Common.{◌≡◌, ℕ, zero, suc, ◌+◌, ◌*◌, ◌/◌, ◌^◌, ◌<◌, ◌≤◌, List, [], ◌∷◌, length, ap, ap₂, ◌∙◌, arith, suc-mul}
use Rattle.std.proofs.Math.Nat.{mul-le-mul, mul-le-mul_left, mul-le-mul_right, mul-div-le, le-mul_of_pos_right}
use Rattle.mr_model.specs.Plans.{Recipe}
use Rattle.mr_image.specs.Images.{Layout, IsLayout, stripe_symbols}
use Rattle.mr_plan.specs.Plans.{PlanParts, AreUpward}
use Rattle.mr_plan.specs.PlanLists.{plan_at, recipes_at}
use Rattle.mr_plan.proofs.PlanListLaws.{own_recipes}
use Rattle.mr_board.specs.Terms.{stripe_words, symbol_words}
use Rattle.mr_board.proofs.Numbers.{stripe-before}

upward-few : (a : ℕ) (recipes : List Recipe) → AreUpward a recipes → a ≤ 128 → a + length recipes ≤ 128
upward-few a [] up low = omega arith
upward-few a (r ∷ recipes) up low = omega (
  arith,
  upward-few (r.symbol + 1) recipes up.1 (omega (arith, up.0.symbol)),
  up.0.later,
)

-- recipes that stand upwards are few
pub few-recipes : (recipes given : List Recipe) → given ≡ recipes → AreUpward 0 recipes → length given ≤ 128
few-recipes recipes given same up = omega (arith, ap length same, upward-few 0 recipes up (omega arith))

sixteen : (a b : ℕ) → a * (16 * b) ≡ 16 * (a * b)
sixteen zero b = omega arith
sixteen (suc a) b = suc-mul a (16 * b) ∙ omega (arith, sixteen a b, suc-mul a b)

module _ (l : Layout) (is : IsLayout l) where
  pub few-symbol : l.symbol_bytes / 8 ≤ 8192
  few-symbol = omega (arith, mul-div-le l.symbol_bytes 8, is.few_bytes)

  module _ (count : ℕ) (few : count ≤ 128) where
    pub few-in-stripe : count * (l.symbol_bytes / 8) ≤ 128 * 8192
    few-in-stripe = mul-le-mul {n₂ = 128} {m₂ = 8192} few few-symbol

    pub few-in-all : l.stripes * (count * (l.symbol_bytes / 8)) < 2 ^ 33
    few-in-all =
        let s : ℕ = l.stripes in
        let b : ℕ = l.symbol_bytes in
        let words : count * (b / 8) ≤ 16 * b = omega (arith, mul-le-mul_right (b / 8) few, mul-div-le b 8) in
        let each : s * (count * (b / 8)) ≤ s * (16 * b) = mul-le-mul_left s words in
        let one : 1 ≤ stripe_symbols l = mul-le-mul {n₁ = 1} {m₁ = 1} is.some_devices is.some_symbols in
        let bytes : s * b ≤ s * stripe_symbols l * b = mul-le-mul_right b (le-mul_of_pos_right s (omega (arith, one))) in
        omega (arith, each, sixteen s b, bytes, is.few_in_all)

-- the words of a stripe, as the code counts them
pub words-are : (l : Layout) (plans : List PlanParts) (plan : PlanParts) (given : List Recipe) (count size : ℕ) → plan ≡ plan_at plans 0
    → given ≡ plan.recipes → count ≡ length given → size ≡ l.symbol_bytes → count * (size / 8) ≡ stripe_words l plans
unfolding stripe_words
words-are l plans plan given count size own all is same =
    ap₂ (λ n b. n * (b / 8)) (is ∙ ap length (own_recipes plans 0 plan given own all)) same

-- a word of a level is one of the stripe
pub level-inside : (l : Layout) (plans : List PlanParts) (level number symbol : ℕ) → symbol ≡ symbol_words l
    → level < length (recipes_at plans 0) → number < symbol → level * symbol + number < stripe_words l plans
unfolding stripe_words
level-inside l plans level number symbol is low inner =
    let all : length (recipes_at plans 0) * symbol ≡ length (recipes_at plans 0) * symbol_words l = ap (λ n. length (recipes_at plans 0) * n) is in
    omega (arith, stripe-before level (length (recipes_at plans 0)) symbol low, all, inner)

pub level-fits : (l : Layout) (plans : List PlanParts) (level symbol : ℕ) → symbol ≡ symbol_words l
    → level < length (recipes_at plans 0) → level * symbol + symbol ≤ stripe_words l plans
unfolding stripe_words
level-fits l plans level symbol is low =
    let all : length (recipes_at plans 0) * symbol ≡ length (recipes_at plans 0) * symbol_words l = ap (λ n. length (recipes_at plans 0) * n) is in
    omega (arith, stripe-before level (length (recipes_at plans 0)) symbol low, all)
