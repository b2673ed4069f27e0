-- The set of the symbols without a recipe, as a loop makes it, and of a valid plan: it is the set of the survivors.
use Rattle.std.proofs.Common.{◌≡◌, ℕ, zero, suc, ◌+◌, ◌*◌, ◌^◌, ◌<◌, ◌≤◌, ◌==◌, ⊎_elim, Bool, true, false, cond, not, ◌||◌, List, [], ◌∷◌, length, get_or, bit_and, bit_or, Any, Some, refl, sym, ap, subst, ◌∙◌, arith, add-one, eq-eqb}
use Rattle.std.specs.Prelude.{is_some}
use Rattle.std.specs.Int.{bit_at}
use Rattle.std.specs.List.{list_any}
use Rattle.std.proofs.lemmas.Bool.{cases_lt}
use Rattle.std.proofs.lemmas.List.{length-map, get_or_default}
use Rattle.std.proofs.lemmas.Nat.{or_disjoint}
use Rattle.mr_model.proofs.SetLaws.{bit_at_cases}
use Rattle.std.proofs.lemmas.Nat.Bits.{and_pow, bit_at_above, same_from_bits}
use Rattle.mr_model.specs.Sets.{set_below}
use Rattle.mr_model.specs.Members.{members}
use Rattle.mr_model.specs.Plans.{Recipe}
use Rattle.mr_model.proofs.Finding.{set_below-lt, bit_at_set_below, bit_at_set_above}
use Rattle.mr_image.specs.Images.{Layout, stripe_symbols, equation_of, Covers}
use Rattle.mr_plan.proofs.MemberLists.{members-All, members-Any}
use Rattle.mr_mend.specs.Mending.{has_recipe, copied_set}
use Rattle.mr_plan.specs.PlanLists.{symbols_of}
use Rattle.mr_mend.proofs.Lists.{symbol_at}
use Rattle.mr_mend.proofs.Turns.{has_recipe-stands}

-- ---- as the code finds it

pub has_recipe-any : (recipes : List Recipe) (i : ℕ) → list_any (λ (r : Recipe). r.symbol == i) recipes ≡ has_recipe recipes i
unfolding equation_of
has_recipe-any [] i = refl
has_recipe-any (r ∷ recipes) i = go (r.symbol == i) (has_recipe-any recipes i)
  where
    go : (b : Bool) → list_any (λ (q : Recipe). q.symbol == i) recipes ≡ has_recipe recipes i
        → (b || list_any (λ (q : Recipe). q.symbol == i) recipes) ≡ is_some (cond b (Some r.equation) (equation_of recipes i))
    go true more = refl
    go false more = more

-- recipes of the same symbols have the same answers
tests_of : (recipes : List Recipe) (i : ℕ) → list_any (λ (r : Recipe). r.symbol == i) recipes ≡ list_any (λ t. t == i) (symbols_of recipes)
tests_of [] i = refl
tests_of (r ∷ recipes) i = ap (λ b. r.symbol == i || b) (tests_of recipes i)

pub has_recipe-same : (recipes others : List Recipe) (i : ℕ) → symbols_of recipes ≡ symbols_of others → has_recipe recipes i ≡ has_recipe others i
has_recipe-same recipes others i same =
    sym (has_recipe-any recipes i) ∙ tests_of recipes i ∙ ap (λ xs. list_any (λ t. t == i) xs) same ∙ sym (tests_of others i) ∙ has_recipe-any others i

-- the symbols below n that are copied
abbrev pub copied_below : List Recipe → ℕ → ℕ
copied_below recipes n = set_below n (λ i. not (has_recipe recipes i))

pub copied-with : (recipes : List Recipe) (n : ℕ) (test : Bool) → test ≡ has_recipe recipes n → test ≡ false → bit_or (copied_below recipes n) (2 ^ n) ≡ copied_below recipes (n + 1)
unfolding set_below
copied-with recipes n test tested lacks =
    let none : bit_and (copied_below recipes n) (2 ^ n) ≡ 0 =
    and_pow (copied_below recipes n) n ∙ ap (λ d. d * 2 ^ n) (bit_at_set_above n (λ i. not (has_recipe recipes i)) n (omega arith)) ∙ omega arith in
    let out : not (has_recipe recipes n) ≡ true = ap not (sym tested ∙ lacks) in
    or_disjoint (copied_below recipes n) (2 ^ n) none
    ∙ sym (λ j. copied_below recipes n + cond (out j) (2 ^ n) 0)
    ∙ ap (copied_below recipes) (sym (add-one n))

pub copied-without : (recipes : List Recipe) (n : ℕ) (test : Bool) → test ≡ has_recipe recipes n → test ≡ true → copied_below recipes n ≡ copied_below recipes (n + 1)
unfolding set_below
copied-without recipes n test tested holds =
    let out : not (has_recipe recipes n) ≡ false = ap not (sym tested ∙ holds) in
    let same : copied_below recipes n ≡ copied_below recipes n + 0 = omega arith in
    same ∙ sym (λ j. copied_below recipes n + cond (out j) (2 ^ n) 0) ∙ ap (copied_below recipes) (sym (add-one n))

pub copied-none : (recipes : List Recipe) → 0 ≡ copied_below recipes 0
unfolding set_below
copied-none recipes = refl

pub copied-whole : (l : Layout) (recipes : List Recipe) (n : ℕ) → n ≡ stripe_symbols l → copied_below recipes n ≡ copied_set l recipes
unfolding copied_set
copied-whole l recipes n all = ap (copied_below recipes) all

-- ---- its members

module _ (l : Layout) (recipes : List Recipe) where
  pub copied_set-lt : copied_set l recipes < 2 ^ stripe_symbols l
  unfolding copied_set
  copied_set-lt = set_below-lt (stripe_symbols l) (λ i. not (has_recipe recipes i))

  pub copied-member : (i : ℕ) → i < stripe_symbols l → has_recipe recipes i ≡ false → bit_at (copied_set l recipes) i ≡ 1
  unfolding copied_set
  copied-member i low lacks =
      let out : not (has_recipe recipes i) ≡ true = ap not lacks in
      bit_at_set_below (stripe_symbols l) (λ k. not (has_recipe recipes k)) i low ∙ (λ j. cond (out j) 1 0)

  pub copied-other : (i : ℕ) → i < stripe_symbols l → has_recipe recipes i ≡ true → bit_at (copied_set l recipes) i ≡ 0
  unfolding copied_set
  copied-other i low holds =
      let out : not (has_recipe recipes i) ≡ false = ap not holds in
      bit_at_set_below (stripe_symbols l) (λ k. not (has_recipe recipes k)) i low ∙ (λ j. cond (out j) 1 0)

  pub copied-above : (i : ℕ) → stripe_symbols l ≤ i → bit_at (copied_set l recipes) i ≡ 0
  unfolding copied_set
  copied-above i high = bit_at_set_above (stripe_symbols l) (λ k. not (has_recipe recipes k)) i high

-- ---- of a plan for a loss

true_and_false : (b : Bool) → b ≡ true → b ≡ false → ⊥
true_and_false b e f = cc

pub stands-has_recipe : (recipes : List Recipe) (i k : ℕ) (d : Recipe) → k < length recipes → (get_or recipes k d).symbol ≡ i → has_recipe recipes i ≡ true
unfolding equation_of
stands-has_recipe [] i k d low e = absurd (omega arith)
stands-has_recipe (r ∷ recipes) i zero d low e = (λ j. is_some (cond (eq-eqb r.symbol i e j) (Some r.equation) (equation_of recipes i)))
stands-has_recipe (r ∷ recipes) i (suc k) d low e = go (r.symbol == i) (stands-has_recipe recipes i k d (omega (arith, low)) e)
  where
    go : (b : Bool) → has_recipe recipes i ≡ true → is_some (cond b (Some r.equation) (equation_of recipes i)) ≡ true
    go true more = refl
    go false more = more

module _ (l : Layout) (survivors lost : ℕ) (recipes : List Recipe) (few : stripe_symbols l ≤ 128) (covers : Covers l survivors lost)
    (apart : (i : ℕ) → bit_at survivors i ≡ 1 → bit_at lost i ≡ 0) (symbols : symbols_of recipes ≡ members lost) where
  -- a lost symbol has a recipe
  lost-has_recipe : (i : ℕ) → i < stripe_symbols l → bit_at lost i ≡ 1 → has_recipe recipes i ≡ true
  lost-has_recipe i low member =
      let found : Any (λ t. t ≡ i) (symbols_of recipes) = subst (λ xs. Any (λ t. t ≡ i) xs) (sym symbols) (members-Any (λ t. t ≡ i) lost i (omega arith) member refl) in
      let k : ℕ = found.0 in
      let d : Recipe = record { symbol = 0; equation = 0 } in
      let low_k : k < length recipes = omega (arith, found.2, length-map recipes (λ (r : Recipe). r.symbol)) in
      stands-has_recipe recipes i k d low_k
      (sym (symbol_at recipes k d low_k) ∙ get_or_default (symbols_of recipes) k 0 found.1 found.2 ∙ found.3 ∙ found.4)

  -- a symbol with a recipe is lost
  has_recipe-lost : (i : ℕ) → has_recipe recipes i ≡ true → bit_at lost i ≡ 1
  has_recipe-lost i holds =
      let at = has_recipe-stands recipes i holds in
      let d : Recipe = record { symbol = 0; equation = 0 } in
      let same : get_or (members lost) at.index 0 ≡ i = ap (λ xs. get_or xs at.index 0) (sym symbols) ∙ symbol_at recipes at.index d at.low ∙ at.is d in
      let low : at.index < length (members lost) = omega (arith, at.low, ap length symbols, length-map recipes (λ (r : Recipe). r.symbol)) in
      subst (λ t. bit_at lost t ≡ 1) same (members-All (λ t. bit_at lost t ≡ 1) lost (λ t member. member) at.index 0 low)

  -- Where a plan has a recipe for each lost symbol, and no symbol is lost that survives, the symbols without a recipe are the survivors.
  pub copied-survivors : copied_set l recipes ≡ survivors
  copied-survivors = same_from_bits _ _ (λ i. ⊎_elim
      (λ (low : i < stripe_symbols l). go i low (has_recipe recipes i) refl)
      (λ (high : stripe_symbols l ≤ i). copied-above l recipes i high ∙ sym (bit_at_above survivors (stripe_symbols l) i covers.few_survivors high))
      (cases_lt i (stripe_symbols l)))
    where
      go : (i : ℕ) → i < stripe_symbols l → (b : Bool) → has_recipe recipes i ≡ b → bit_at (copied_set l recipes) i ≡ bit_at survivors i
      go i low true e =
          let gone : bit_at lost i ≡ 1 = has_recipe-lost i e in
          copied-other l recipes i low e ∙ sym (⊎_elim
          (λ (survives : bit_at survivors i ≡ 1). absurd (omega (arith, gone, apart i survives)))
          (λ (out : bit_at survivors i ≡ 0). out)
          (bit_at_cases survivors i))
      go i low false e = copied-member l recipes i low e ∙ sym (⊎_elim
          (λ (survives : bit_at survivors i ≡ 1). survives)
          (λ (gone : bit_at lost i ≡ 1). absurd (true_and_false (has_recipe recipes i) (lost-has_recipe i low gone) e))
          (covers.each i low))

-- ---- as the code names it

pub copied_is : (l : Layout) (recipes given : List Recipe) (set : ℕ) → given ≡ recipes → set ≡ copied_set l given → set ≡ copied_set l recipes
copied_is l recipes given set same is = is ∙ ap (copied_set l) same

pub copied_low : (l : Layout) (recipes given : List Recipe) (set : ℕ) → given ≡ recipes → set ≡ copied_set l given → set < 2 ^ stripe_symbols l
copied_low l recipes given set same is = subst (λ x. x < 2 ^ stripe_symbols l) (sym is) (copied_set-lt l given)
