-- The plans of all rotations: what they are for each stripe, and what they make of images that come from data.
use Rattle.std.proofs.Common.{◌≡◌, ℕ, ◌-◌, ◌*◌, ◌%◌, ◌^◌, ◌<◌, ◌≤◌, ◌==◌, inl, inr, false, cond, max, min, List, [], ◌∷◌, length, get_or, sym, ap, subst, ◌∙◌, arith}
use Rattle.std.proofs.lemmas.Nat.{mod_below}
use Rattle.std.proofs.lemmas.Nat.Bits.{bit_at_ones}
use Rattle.std.proofs.lemmas.List.{get_or_default}
use Rattle.mr_model.specs.Members.{members}
use Rattle.mr_model.specs.Code.{Code}
use Rattle.mr_model.proofs.SetLaws.{bit_at_cases, bit_at_minus}
use Rattle.mr_model.specs.Plans.{IsValidPlan}
use Rattle.mr_model.specs.Rotations.{rotated}
use Rattle.mr_bits.specs.Matrices.{IsMatrixCode}
use Rattle.mr_image.specs.Images.{Layout, IsLayout, stripe_symbols, every_stripe, Covers, AreValid}
use Rattle.mr_image.specs.Rotated.{FitsCode, codes_by, rotations}
use Rattle.mr_image.proofs.RotatedLaws.{codes-of, codes-at, rotations-some}
use Rattle.mr_image.proofs.Codewords.{gives-codewords}
use Rattle.mr_plan.specs.Plans.{PlanParts, survivors}
use Rattle.mr_plan.specs.PlanLists.{no_plan, plan_at, recipes_at, symbols_of, ArePlans}
use Rattle.mr_plan.proofs.PlanListLaws.{plan_at-rotation, plan_at-low, plan_at-one}
use Rattle.mr_mend.specs.Mending.{IsMendable, AreMendable}
use Rattle.mr_mend.specs.Rotations.{AreValidPlans, GivesRotated}
use Rattle.mr_mend.proofs.Mendable.{mendable-from_valid}
use Rattle.mr_eq.proofs.SingleLaws.{survivors-below}

-- ---- the survivors

few_survivors : (l : Layout) (m : Code) (lost : ℕ) → IsMatrixCode m → FitsCode l m → survivors m lost < 2 ^ stripe_symbols l
few_survivors l m lost is fits =
    let rows : length m.rows ≡ stripe_symbols l = is.count ∙ sym (λ j. fits.devices j * fits.symbols j) in
    subst (λ n. survivors m lost < 2 ^ n) rows (survivors-below m lost)

pub survivors_cover : (l : Layout) (m : Code) (lost : ℕ) → IsMatrixCode m → FitsCode l m → Covers l (survivors m lost) lost
survivors_cover l m lost is fits =
    let rows : length m.rows ≡ stripe_symbols l = is.count ∙ sym (λ j. fits.devices j * fits.symbols j) in
    record {
      few_survivors = few_survivors l m lost is fits;
      each = λ i low. elim (bit_at_cases lost i) [
        | inl member ↦ inr member
        | inr out ↦ inl (bit_at_minus (2 ^ length m.rows - 1) lost i ∙ omega (arith, out, bit_at_ones (length m.rows) i (omega (arith, rows, low))))
      ];
    }

-- ---- the plans

module _ (l : Layout) (m : Code) (lost : ℕ) (plans : List PlanParts) (is : IsMatrixCode m) (fits : FitsCode l m) (are : AreValidPlans l m lost plans) where
  some_plans : 0 < length plans
  some_plans = omega (arith, are.count, rotations-some l)

  -- the plan of each stripe is valid for its code
  pub valid-at : (s : ℕ) → s < l.stripes → IsValidPlan (codes_by l m s) (survivors m lost) lost (plan_at plans s).set (recipes_at plans s)
  unfolding recipes_at
  valid-at s here =
      let r : ℕ = s % rotations l in
      let low : r < rotations l = mod_below s (rotations l) (rotations-some l) in
      let some : 1 ≤ l.devices = omega (arith, fits.devices, is.shape.some_devices) in
      let code : codes_by l m r ≡ codes_by l m s = sym (codes-at l m s some fits.devices here) in
      let plan : plan_at plans r ≡ plan_at plans s = ap (λ n. plan_at plans (s % n)) (sym are.count) ∙ plan_at-rotation plans s some_plans in
      let first : IsValidPlan (codes_by l m s) (survivors m lost) lost (plan_at plans r).set (plan_at plans r).recipes =
      subst (λ (k : Code). IsValidPlan k (survivors m lost) lost (plan_at plans r).set (plan_at plans r).recipes) code (are.valid r low) in
      subst (λ (p : PlanParts). IsValidPlan (codes_by l m s) (survivors m lost) lost p.set p.recipes) plan first

  -- each plan may be carried out
  pub planned-mendable : lost < 2 ^ stripe_symbols l → AreMendable l plans
  unfolding recipes_at
  planned-mendable few = record {
    each = λ s.
        let r : ℕ = s % rotations l in
        let low : r < rotations l = mod_below s (rotations l) (rotations-some l) in
        let plan : plan_at plans r ≡ plan_at plans s = ap (λ n. plan_at plans (s % n)) (sym are.count) ∙ plan_at-rotation plans s some_plans in
        let first : IsMendable l (plan_at plans r) = mendable-from_valid l (codes_by l m r) (survivors m lost) lost (plan_at plans r) (few_survivors l m lost is fits) few (are.valid r low) in
        subst (λ (p : PlanParts). IsMendable l p) plan first;
  }

  -- and all have recipes for the lost symbols
  pub planned-symbols : ArePlans plans
  unfolding recipes_at
  planned-symbols = record {
    some = some_plans;
    same = λ k d low.
        let at : plan_at plans k ≡ get_or plans k d = plan_at-low plans k low ∙ get_or_default plans k no_plan d low in
        let here : symbols_of (plan_at plans k).recipes ≡ members lost = (are.valid k (omega (arith, low, are.count))).symbols in
        let first : symbols_of (plan_at plans 0).recipes ≡ members lost = (are.valid 0 (omega (arith, rotations-some l))).symbols in
        ap (λ (p : PlanParts). symbols_of p.recipes) (sym at) ∙ here ∙ sym first;
  }

  -- in each stripe there is a valid plan
  pub planned-valid : AreValid l (codes_by l m) (every_stripe (survivors m lost)) (every_stripe lost) (λ s. (plan_at plans s).set) (recipes_at plans)
  planned-valid = record { covered = λ s here. survivors_cover l m lost is fits; valid = valid-at }

-- in version 1 one valid plan of the code serves all stripes
pub valid-one : (l : Layout) (m : Code) (lost : ℕ) (plan : PlanParts) → l.version ≡ 1 → IsValidPlan m (survivors m lost) lost plan.set plan.recipes → AreValidPlans l m lost (plan ∷ [])
unfolding recipes_at
valid-one l m lost plan first valid =
    let second : (l.version == 2) ≡ false = ap (λ v. v == 2) first in
    record {
      count = ap (λ b. cond b (max 1 (min l.devices l.stripes)) 1) (sym second);
      valid = λ r low.
          subst (λ (k : Code). IsValidPlan k (survivors m lost) lost (plan_at (plan ∷ []) r).set (plan_at (plan ∷ []) r).recipes) (ap (λ b. cond b (rotated m (r % m.devices)) m) (sym second))
          (subst (λ (p : PlanParts). IsValidPlan m (survivors m lost) lost p.set p.recipes) (sym (plan_at-one plan r)) valid);
    }

pub gives-rotated : (l : Layout) → IsLayout l → GivesRotated l
gives-rotated l limits = record {
  symbols = λ m lost plans image columns is fits are from.
      (gives-codewords l limits).symbols (codes_by l m) (every_stripe (survivors m lost)) (every_stripe lost) (λ s. (plan_at plans s).set) (recipes_at plans) image columns
      (planned-valid l m lost plans is fits are) from;
  file = λ m lost plans image columns is fits are from.
      (gives-codewords l limits).file (codes_by l m) (every_stripe (survivors m lost)) (every_stripe lost) (λ s. (plan_at plans s).set) (recipes_at plans) image columns
      (planned-valid l m lost plans is fits are) from;
  replies = λ m lost plans image columns is fits are from budget s t here low gone.
      (gives-codewords l limits).replies (codes_by l m) (every_stripe (survivors m lost)) (every_stripe lost) (λ s. (plan_at plans s).set) (recipes_at plans) image columns
      (codes-of l m is fits) (planned-valid l m lost plans is fits are) from budget s t here low gone;
}
