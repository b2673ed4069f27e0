-- Lists of recipes that stand upwards, and what is made of each item of a list.
use Rattle.std.proofs.Common.{◌≡◌, ◌≤◌, ◌*◌, ℕ, zero, suc, ◌<◌, ◌==◌, Bool, true, false, cond, List, [], ◌∷◌, ◌++◌, flat_map, length, get_or, All, Some, refl, ap, ap₂, ◌∙◌, arith, eqb-true, eq-eqb}
use Rattle.std.proofs.Math.ListN.{get_or-map}
use Rattle.std.proofs.lemmas.List.{get_or_default, length-map}
use Rattle.std.proofs.Math.Nat.{mul-le-mul}
use Rattle.mr_model.specs.Plans.{Recipe}
use Rattle.mr_plan.specs.Plans.{AreUpward}
use Rattle.mr_plan.specs.PlanLists.{symbols_of}
use Rattle.mr_image.specs.Images.{Layout, stripe_symbols, equation_of}
use Rattle.mr_image.specs.declared.limits.TheConstants.{SYMBOL_LIMIT}
use Rattle.mr_board.proofs.Sizes.{few-recipes}
use Rattle.mr_mend.specs.Mending.{IsUpwards}

-- what is the same of each item is the same in all
pub flat_map-each : {X : Type 0} (f g : X → List ℕ) (xs : List X) → All (λ x. f x ≡ g x) xs → flat_map f xs ≡ flat_map g xs
flat_map-each f g [] same = refl
flat_map-each f g (x ∷ xs) same = ap₂ (λ a b. a ++ b) (same 0 x (omega arith)) (flat_map-each f g xs (λ k d low. same (suc k) d (omega (arith, low))))

test_false : (a b : ℕ) → a < b → (a == b) ≡ false
test_false a b h = go (a == b) refl
  where
    go : (t : Bool) → (a == b) ≡ t → t ≡ false
    go true e = absurd (omega (arith, eqb-true a b e, h))
    go false e = refl

pub symbol_at : (recipes : List Recipe) (k : ℕ) (d : Recipe) → k < length recipes → get_or (symbols_of recipes) k 0 ≡ (get_or recipes k d).symbol
symbol_at recipes k d low =
    let long : k < length (symbols_of recipes) = omega (arith, low, length-map recipes (λ (r : Recipe). r.symbol)) in
    get_or_default (symbols_of recipes) k 0 d.symbol long ∙ get_or-map (λ (r : Recipe). r.symbol) recipes k d

-- each recipe that stands upwards is the first of its symbol
pub equation_of-upwards : (recipes : List Recipe) → IsUpwards (symbols_of recipes) → All (λ r. equation_of recipes r.symbol ≡ Some r.equation) recipes
unfolding equation_of
equation_of-upwards [] up k d low = absurd (omega arith)
equation_of-upwards (q ∷ recipes) up zero d low = (λ j. cond (eq-eqb q.symbol q.symbol refl j) (Some q.equation) (equation_of recipes q.symbol))
equation_of-upwards (q ∷ recipes) up (suc k) d low =
    let inside : k < length recipes = omega (arith, low) in
    let r : Recipe = get_or recipes k d in
    let later : q.symbol < r.symbol =
    omega (arith, up 0 (suc k) (omega arith) (omega (arith, inside, length-map recipes (λ (p : Recipe). p.symbol))), symbol_at recipes k d inside) in
    (λ j. cond (test_false q.symbol r.symbol later j) (Some q.equation) (equation_of recipes r.symbol))
    ∙ equation_of-upwards recipes (λ i j lt high. up (suc i) (suc j) (omega arith) (omega (arith, high))) k d inside

-- the symbol of a recipe of the list is in range
pub symbol-in : (l : Layout) (recipes : List Recipe) (k : ℕ) (r : Recipe) → All (λ (q : Recipe). q.symbol < stripe_symbols l) recipes → k < length recipes → r ≡ get_or recipes k r
    → r.symbol < stripe_symbols l
symbol-in l recipes k r in_range low is = omega (arith, in_range k r low, ap (λ (q : Recipe). q.symbol) is)

-- ---- how many recipes

-- the bytes of one symbol for each recipe of a plan
pub recipes-fit : (recipes given : List Recipe) (bytes size : ℕ) → given ≡ recipes → AreUpward 0 recipes → size ≡ bytes → bytes ≤ SYMBOL_LIMIT → length given * size ≤ 128 * SYMBOL_LIMIT
recipes-fit recipes given bytes size same up is few =
    mul-le-mul {n₂ = 128} {m₂ = SYMBOL_LIMIT} (few-recipes recipes given same up) (omega (arith, is, few))
