-- What a cache of plans holds and answers.
use Rattle.std.specs.Prelude.{◌≡◌, ◌≢◌, ℕ, ◌-◌, List, ◌∷◌, ◌++◌, Result, Ok, Err, IsOk, Contains, take}
use Rattle.mr_model.specs.Code.{Code}
use Rattle.mr_plan.specs.Plans.{PlanParts}
use Rattle.mr_cache.specs.declared.patterns.Pattern.{Pattern}
use Rattle.mr_cache.specs.declared.errors.PlanError.{PlanError}
use Rattle.mr_cache.specs.declared.errors.PlanError.TheVariants.{Undetermined, Memory}
use Rattle.mr_cache.specs.declared.cache.Served.{Served}
use Rattle.mr_cache.specs.declared.cache.Served.TheVariants.{Kept, Made}
use Rattle.mr_cache.specs.declared.cache.PlanCache.{PlanCache}
use Rattle.mr_cache.specs.Planning.{plan_of_pattern}

abbrev pub Entries : Type 0
Entries = List (Pattern × PlanParts)

-- the plans with their patterns, the most recently used first
abbrev pub entries : PlanCache → Entries
entries c = c.kept.entries

-- the code and the budget of its plans
abbrev pub code_of : PlanCache → Code
code_of c = c.matrix

abbrev pub budget_of : PlanCache → ℕ
budget_of c = c.budget

-- how many there may be
abbrev pub capacity : PlanCache → ℕ
capacity c = c.kept.cap

-- a cache of this matrix, budget and capacity with these entries
pub record IsCache (m : Code) (budget most : ℕ) (es : Entries) (c : PlanCache) : Type 0 where
  pub code : c.matrix ≡ m
  pub budget_is : c.budget ≡ budget
  pub capacity_is : capacity c ≡ most
  pub entries_are : entries c ≡ es

-- the pattern has no entry
abbrev pub IsNew : Pattern → Entries → Type 0
IsNew p es = (e : Pattern × PlanParts) → Contains es e → e.0 ≢ p

-- the entry moves to the front, and the others stay in their order
pub record MovesToFront (e : Pattern × PlanParts) (old new : Entries) : Type 0 where
  pub before : Entries
  pub after : Entries
  pub stood : old ≡ before ++ e ∷ after
  pub stands : new ≡ e ∷ (before ++ after)

-- the pattern has an entry, with its plan, and that moves to the front
pub record KeepsPlan (old : PlanCache) (p : Pattern) (new : Entries) : Type 0 where
  pub plan : PlanParts
  pub is : plan_of_pattern old.matrix old.budget p ≡ Ok plan
  pub moved : MovesToFront (p, plan) (entries old) new

-- the pattern has no entry: a new one comes to the front, and of a full cache the last entry goes
pub record AddsPlan (old : PlanCache) (p : Pattern) (new : Entries) : Type 0 where
  pub plan : PlanParts
  pub is : plan_of_pattern old.matrix old.budget p ≡ Ok plan
  pub fresh : IsNew p (entries old)
  pub added : new ≡ (p, plan) ∷ take (capacity old - 1) (entries old)

-- the pattern has no plan, and the entries are as before
pub record RefusesSymbol (old : PlanCache) (p : Pattern) (symbol : ℕ) (new : Entries) : Type 0 where
  pub is : plan_of_pattern old.matrix old.budget p ≡ Err symbol
  pub same : new ≡ entries old

-- the pattern has no entry, though it has a plan, and the entries are as before
pub record LacksMemory (old : PlanCache) (p : Pattern) (new : Entries) : Type 0 where
  pub planned : IsOk (plan_of_pattern old.matrix old.budget p)
  pub fresh : IsNew p (entries old)
  pub same : new ≡ entries old

-- what an answer tells of the entries before and after it
abbrev pub Serves : PlanCache → Pattern → Result Served PlanError → Entries → Type 0
Serves old p (Ok Kept) new = KeepsPlan old p new
Serves old p (Ok Made) new = AddsPlan old p new
Serves old p (Err (Undetermined symbol)) new = RefusesSymbol old p symbol new
Serves old p (Err Memory) new = LacksMemory old p new

-- the first entry is that of the pattern, with its plan
pub record HasInFront (c : PlanCache) (p : Pattern) : Type 0 where
  pub plan : PlanParts
  pub rest : Entries
  pub is : plan_of_pattern c.matrix c.budget p ≡ Ok plan
  pub first : entries c ≡ (p, plan) ∷ rest

-- matrix, budget and capacity are as before
pub record IsSameCache (old new : PlanCache) : Type 0 where
  pub code : new.matrix ≡ old.matrix
  pub budget : new.budget ≡ old.budget
  pub cap : capacity new ≡ capacity old
