-- One stripe of the walk that mends: its pattern, its plan, and what follows.
use Rattle.std.proofs.Common.{◌≡◌, ℕ, ◌^◌, ◌<◌, List, length, get_or, Ok, sym, subst, ◌∙◌, arith}
use Rattle.std.specs.Prelude.{IsOk}
use Rattle.mr_model.specs.Code.{Code}
use Rattle.mr_bits.specs.Matrices.{IsMatrixCode}
use Rattle.mr_image.specs.Images.{IsLayout}
use Rattle.mr_plan.specs.Plans.{PlanParts}
use Rattle.mr_mend.specs.Mending.{IsMendable}
use Rattle.mr_cache.specs.declared.cache.PlanCache.{PlanCache}
use Rattle.mr_cache.specs.declared.patterns.Pattern.{Pattern}
use Rattle.mr_cache.specs.Cache.{HasInFront, IsSameCache, entries}
use Rattle.mr_cache.specs.Planning.{plan_of_pattern}
use Rattle.mr_sector.specs.Patterns.{failed}
use Rattle.mr_patch.specs.Damages.{DamageParts, IsDamage, IsDetermined, failed_at, pattern_at}
use Rattle.mr_patch.proofs.CachePlans.{front-planned}
use Rattle.mr_patch.proofs.StripePlans.{failed-low, own-mendable, own-recipes, own-set, pattern-ok, rotation-low}
use Rattle.mr_patch.proofs.Walking.{IsWalking}
use Rattle.mr_mend.specs.declared.asks.Ask.{Ask}
use Rattle.mr_patch.specs.Damages.{recipes_at, set_at}

-- what fails in the stripe is what the walk finds
pub walked-failed : (d : DamageParts) (left : List Ask) (s set : ℕ) → IsWalking d.sectors left s → set ≡ failed d.lost left s → set ≡ failed_at d s
walked-failed d left s set walk is = is ∙ sym (walk.same d.lost s (omega arith))

module _ (d : DamageParts) (may : IsLayout d.layout) (is : IsMatrixCode d.code) (damage : IsDamage d) (known : IsDetermined d) (s : ℕ) (here : s < d.layout.stripes)
    (first old : PlanCache) (code : first.matrix ≡ d.code) (same : IsSameCache first old) (p : Pattern) (is_p : p ≡ pattern_at d s) where
  old-code : old.matrix ≡ d.code
  old-code = same.code ∙ code

  pub found-rotation : p.rotation < old.matrix.devices
  found-rotation = (subst (λ (q : Pattern). q.rotation < old.matrix.devices) (sym is_p)
      (subst (λ (m : Code). (pattern_at d s).rotation < m.devices) (sym old-code) (rotation-low d is damage s)))

  pub found-lost : p.lost < 2 ^ length old.matrix.rows
  found-lost = subst (λ (q : Pattern). q.lost < 2 ^ length old.matrix.rows) (sym is_p)
      (subst (λ (m : Code). failed_at d s < 2 ^ length m.rows) (sym old-code) (failed-low d may is damage known first.budget s here))

  pub found-ok : IsOk (plan_of_pattern old.matrix old.budget p)
  found-ok = subst (λ (q : Pattern). IsOk (plan_of_pattern old.matrix old.budget q)) (sym is_p)
      (subst (λ (m : Code). IsOk (plan_of_pattern m old.budget (pattern_at d s))) (sym old-code) (pattern-ok d may is damage known old.budget s here))

  -- with the plan in front of the cache
  module _ (now : PlanCache) (again : IsSameCache old now) (front : HasInFront now p) (plan : PlanParts)
      (lent : (e : Pattern × PlanParts) → plan ≡ (get_or (entries now) 0 e).1) where
    found : plan_of_pattern d.code first.budget (pattern_at d s) ≡ Ok plan
    found = subst (λ (q : Pattern). plan_of_pattern d.code first.budget q ≡ Ok plan) is_p
        (front-planned now d.code first.budget p plan (again.code ∙ old-code) (again.budget ∙ same.budget) front lent)

    pub found-mendable : IsMendable d.layout plan
    found-mendable = own-mendable d may is damage known first.budget s here plan found

    pub found-set : plan.set ≡ set_at d first.budget s
    found-set = own-set d may is damage known first.budget s here plan found

    pub found-recipes : plan.recipes ≡ recipes_at d first.budget s
    found-recipes = own-recipes d may is damage known first.budget s here plan found
