-- The first fault of a plan, as a property: what comes before it in the order holds, and it doesn't.
use Rattle.std.specs.Prelude.{◌≡◌, ℕ, ◌<◌, true, false, List, [], ◌∷◌, ◌++◌, map, All, Any}
use Rattle.std.specs.Int.{bit_at}
use Rattle.mr_model.specs.Sets.{within}
use Rattle.mr_model.specs.Members.{members}
use Rattle.mr_model.specs.Code.{Code, is_equation}
use Rattle.mr_model.specs.Plans.{Recipe}
use Rattle.mr_plan.specs.declared.errors.Wrong.{Wrong}
use Rattle.mr_plan.specs.declared.errors.Why.{Why}
use Rattle.mr_plan.specs.declared.errors.Why.TheVariants.{NotSurvivor, Missing, Stray, Outside, Sum, Spare}
use Rattle.mr_plan.specs.Plans.{PlanParts, survivors}

-- ---- what is the first of its kind

-- s is the least member of the set that P does not hold of
pub record IsLeastFailure (set : ℕ) (P : ℕ → Type 0) (s : ℕ) : Type 0 where
  pub member : bit_at set s ≡ 1
  pub fails : ¬ P s
  pub before : (i : ℕ) → i < s → bit_at set i ≡ 1 → P i

-- the first number, if there is one, is greater than s
abbrev pub BeginsAbove : ℕ → List ℕ → Type 0
BeginsAbove s [] = Unit {0}
BeginsAbove s (t ∷ ts) = s < t

-- s stands at the first place at which the two lists differ: there the other list has none, or a greater number
pub record IsFirstLacked (numbers others : List ℕ) (s : ℕ) : Type 0 where
  pub agreed : List ℕ
  pub rest : List ℕ
  pub others_rest : List ℕ
  pub here : numbers ≡ agreed ++ s ∷ rest
  pub there : others ≡ agreed ++ others_rest
  pub lacked : BeginsAbove s others_rest

-- s is the symbol of the first recipe that P does not hold of; `Fault` says why
pub record IsFirstFaulty (recipes : List Recipe) (P Fault : Recipe → Type 0) (s : ℕ) : Type 0 where
  pub earlier : List Recipe
  pub recipe : Recipe
  pub later : List Recipe
  pub all : recipes ≡ earlier ++ recipe ∷ later
  pub sound : All P earlier
  pub symbol : recipe.symbol ≡ s
  pub fault : Fault recipe

-- ---- what a valid plan has, in the order in which it is looked at

-- each member of the set survives
abbrev pub Survives : Code → ℕ → PlanParts → Type 0
Survives m lost p = within p.set (survivors m lost) ≡ true

abbrev pub recipe_symbols : PlanParts → List ℕ
recipe_symbols p = map (λ r. r.symbol) p.recipes

-- there is one recipe for each lost symbol, upwards
abbrev pub HasRecipes : ℕ → PlanParts → Type 0
HasRecipes lost p = recipe_symbols p ≡ members lost

-- the recipe is within the set, and adds up to the row of its symbol
pub record IsSound (m : Code) (set : ℕ) (r : Recipe) : Type 0 where
  pub inside : within r.equation set ≡ true
  pub sum : is_equation m r.symbol r.equation ≡ true

-- the recipe has a source outside the set
abbrev pub IsOutside : ℕ → Recipe → Type 0
IsOutside set r = within r.equation set ≡ false

-- the recipe is within the set, and does not add up to the row of its symbol
pub record IsNoSum (m : Code) (set : ℕ) (r : Recipe) : Type 0 where
  pub inside : within r.equation set ≡ true
  pub no_sum : is_equation m r.symbol r.equation ≡ false

-- i stands in a recipe
abbrev pub IsNeeded : PlanParts → ℕ → Type 0
IsNeeded p i = Any (λ r. bit_at r.equation i ≡ 1) p.recipes

-- ---- the first fault

-- at the symbol s, for this reason
abbrev pub IsFaultAt : Code → ℕ → PlanParts → ℕ → Why → Type 0
IsFaultAt m lost p s NotSurvivor = IsLeastFailure p.set (λ i. bit_at (survivors m lost) i ≡ 1) s
IsFaultAt m lost p s Missing = Survives m lost p × IsFirstLacked (members lost) (recipe_symbols p) s
IsFaultAt m lost p s Stray = Survives m lost p × IsFirstLacked (recipe_symbols p) (members lost) s
IsFaultAt m lost p s Outside = Survives m lost p × HasRecipes lost p
    × IsFirstFaulty p.recipes (IsSound m p.set) (IsOutside p.set) s
IsFaultAt m lost p s Sum = Survives m lost p × HasRecipes lost p
    × IsFirstFaulty p.recipes (IsSound m p.set) (IsNoSum m p.set) s
IsFaultAt m lost p s Spare = Survives m lost p × HasRecipes lost p
    × All (IsSound m p.set) p.recipes × IsLeastFailure p.set (IsNeeded p) s

abbrev pub IsFirstFault : Code → ℕ → PlanParts → Wrong → Type 0
IsFirstFault m lost p fault = IsFaultAt m lost p fault.symbol fault.why
