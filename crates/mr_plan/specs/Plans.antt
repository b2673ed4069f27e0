-- Plans as values, and the plan made of a set.
use Rattle.std.specs.Prelude.{ℕ, ◌+◌, ◌^◌, ◌<◌, ◌≤◌, List, [], ◌∷◌, map}
use Rattle.mr_model.specs.Members.{members}
pub use Rattle.mr_model.specs.Code.{survivors}
use Rattle.mr_model.specs.Code.{Code}
use Rattle.mr_model.specs.Plans.{Recipe, recipe}
use Rattle.mr_bits.specs.declared.matrices.TheConstants.{MOST_SYMBOLS}
use Rattle.mr_plan.specs.declared.kinds.Kind.{Kind}

-- A plan: how its set was found, the set of survivors to read, and a recipe for each lost symbol.
pub record PlanParts : Type 0 where
  pub kind : Kind
  pub set : ℕ
  pub recipes : List Recipe

-- ---- which plans there are

-- a recipe that may stand behind those of the symbols below `least`
pub record IsNext (least : ℕ) (r : Recipe) : Type 0 where
  pub later : least ≤ r.symbol
  pub symbol : r.symbol < MOST_SYMBOLS
  pub sources : r.equation < 2 ^ MOST_SYMBOLS

-- recipes strictly upwards by symbol, from the symbol `least` on
abbrev pub AreUpward : ℕ → List Recipe → Type 0
AreUpward least [] = Unit {0}
AreUpward least (r ∷ rs) = IsNext least r × AreUpward (r.symbol + 1) rs

-- a plan of symbols within the limit, its recipes upwards
pub record IsPlan (plan : PlanParts) : Type 0 where
  pub set : plan.set < 2 ^ MOST_SYMBOLS
  pub recipes : AreUpward 0 plan.recipes

-- ---- making a plan of a set

-- the recipe of a lost symbol in the set
abbrev pub recipe_in : Code → ℕ → ℕ → Recipe
recipe_in m set t = record { symbol = t; equation = recipe m set t }

-- the plan that reads the set for the lost symbols
abbrev pub plan_of : Code → ℕ → ℕ → Kind → PlanParts
plan_of m lost set kind =
    record { kind = kind; set = set; recipes = map (recipe_in m set) (members lost) }
