-- The plan that stands in front of a cache.
use Rattle.std.proofs.Common.{◌≡◌, ℕ, ◌<◌, length, get_or, Ok, sym, ap, subst, ◌∙◌, arith}
use Rattle.mr_model.specs.Code.{Code}
use Rattle.mr_plan.specs.Plans.{PlanParts}
use Rattle.mr_cache.specs.declared.cache.PlanCache.{PlanCache}
use Rattle.mr_cache.specs.declared.patterns.Pattern.{Pattern}
use Rattle.mr_cache.specs.Cache.{Entries, HasInFront, IsSameCache, entries}
use Rattle.mr_cache.specs.Planning.{plan_of_pattern}

-- it is the plan of the pattern, of the code and within the budget of the cache
pub front-planned : (c : PlanCache) (m : Code) (budget : ℕ) (p : Pattern) (plan : PlanParts) → c.matrix ≡ m → c.budget ≡ budget → HasInFront c p
    → ((e : Pattern × PlanParts) → plan ≡ (get_or (entries c) 0 e).1) → plan_of_pattern m budget p ≡ Ok plan
front-planned c m budget p plan code within h is =
    let own : plan ≡ h.plan = is (p, h.plan) ∙ ap (λ (es : Entries). (get_or es 0 (p, h.plan)).1) h.first in
    (λ j. plan_of_pattern (sym code j) (sym within j) p) ∙ h.is ∙ ap (λ (q : PlanParts). Ok q) (sym own)

-- and so something stands there
pub front-some : (c : PlanCache) (p : Pattern) → HasInFront c p → 0 < length (entries c)
front-some c p h = subst (λ (es : Entries). 0 < length es) (sym h.first) (omega arith)

-- a cache that is the same as one that is the same
pub same-cache : (a b c : PlanCache) → IsSameCache a b → IsSameCache b c → IsSameCache a c
same-cache a b c ab bc = record { code = bc.code ∙ ab.code; budget = bc.budget ∙ ab.budget; cap = bc.cap ∙ ab.cap }
