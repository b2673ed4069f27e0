-- Plans that are valid for a loss may be carried out in the bytes of the stripes.
use Rattle.std.proofs.Common.{◌≡◌, ℕ, ◌-◌, ◌%◌, ◌^◌, ◌<◌, length, get_or, All, sym, ap, subst, ◌∙◌, arith}
use Rattle.std.specs.Int.{bit_at}
use Rattle.std.proofs.lemmas.List.{length-map}
use Rattle.std.proofs.lemmas.Nat.{mod_below}
use Rattle.mr_model.specs.Code.{Code}
use Rattle.mr_model.specs.Members.{members}
use Rattle.mr_model.specs.Plans.{Recipe, IsValidPlan}
use Rattle.mr_model.proofs.SetLaws.{bit_at_minus, true-within}
use Rattle.mr_image.specs.Images.{Layout}
use Rattle.mr_image.specs.Rotated.{codes_by, rotations}
use Rattle.mr_image.proofs.RotatedLaws.{rotations-some}
use Rattle.mr_plan.specs.Plans.{PlanParts, survivors}
use Rattle.mr_plan.specs.PlanLists.{plan_at, recipes_at}
use Rattle.mr_plan.proofs.MemberLists.{members-All}
use Rattle.mr_plan.proofs.PlanListLaws.{plan_at-rotation}
use Rattle.mr_mend.proofs.Lists.{symbol_at}
use Rattle.mr_mend.proofs.Planned.{planned-mendable}
use Rattle.mr_kept.specs.Kept.{AmendsValidPlans}

-- a valid plan reads no symbol that it rebuilds
apart : (m k : Code) (lost : ℕ) (plan : PlanParts) → IsValidPlan k (survivors m lost) lost plan.set plan.recipes → All (λ r. bit_at plan.set r.symbol ≡ 0) plan.recipes
apart m k lost plan valid n d low =
    let count : length plan.recipes ≡ length (members lost) = sym (length-map plan.recipes (λ (r : Recipe). r.symbol)) ∙ ap length valid.symbols in
    let out : All (λ t. bit_at plan.set t ≡ 0) (members lost) =
    members-All (λ t. bit_at plan.set t ≡ 0) lost (λ t member.
    omega (arith, true-within plan.set (survivors m lost) valid.survivors t, bit_at_minus (2 ^ length m.rows - 1) lost t, member)) in
    let same : get_or (members lost) n 0 ≡ (get_or plan.recipes n d).symbol = sym (ap (λ xs. get_or xs n 0) valid.symbols) ∙ symbol_at plan.recipes n d low in
    sym (ap (bit_at plan.set) same) ∙ out n 0 (omega (arith, low, count))

pub amends-valid_plans : (l : Layout) → AmendsValidPlans l
unfolding recipes_at
amends-valid_plans l = record {
  plans = λ m lost plans is fits few are. record {
    each = λ s.
        let some : 0 < length plans = omega (arith, are.count, rotations-some l) in
        let r : ℕ = s % rotations l in
        let plan : plan_at plans r ≡ plan_at plans s = ap (λ n. plan_at plans (s % n)) (sym are.count) ∙ plan_at-rotation plans s some in
        record {
          mendable = (planned-mendable l m lost plans is fits are few).each s;
          apart = subst (λ (p : PlanParts). All (λ (q : Recipe). bit_at p.set q.symbol ≡ 0) p.recipes) plan
              (apart m (codes_by l m r) lost (plan_at plans r) (are.valid r (mod_below s (rotations l) (rotations-some l))));
        };
  };
}
