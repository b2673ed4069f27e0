-- The plans of all rotations, one after the other.
use Rattle.std.proofs.Common.{◌≡◌, ℕ, ◌+◌, ◌%◌, ◌<◌, ◌≤◌, ◌==◌, Bool, true, false, cond, List, [], ◌∷◌, ◌++◌, length, get_or, max, min, refl, sym, ap, ap₂, subst, ◌∙◌, ⊎_elim, arith, mod-eq_of_lt}
use Rattle.std.proofs.Math.Nat.{le-mul_of_pos_right}
use Rattle.std.proofs.lemmas.Bool.{cases_eq}
use Rattle.std.proofs.lemmas.List.FromFn.{length-map-range_with_len, get_or-map-range_with_len, map-range_with_len_more}
use Rattle.mr_model.specs.Code.{Code}
use Rattle.mr_model.specs.Plans.{Recipe, IsValidPlan}
use Rattle.mr_model.specs.Rotations.{rotated}
use Rattle.mr_model.proofs.RotationLaws.{rotated-zero}
use Rattle.mr_bits.specs.Matrices.{IsMatrixCode}
use Rattle.mr_eq.specs.Problems.{Loss}
use Rattle.mr_image.specs.Images.{Layout}
use Rattle.mr_image.specs.Rotated.{FitsCode, codes_by, rotations}
use Rattle.mr_image.proofs.RotatedLaws.{rotations-few}
use Rattle.mr_plan.specs.Plans.{PlanParts, survivors}
use Rattle.mr_plan.specs.PlanLists.{no_plan, plan_at, recipes_at}
use Rattle.mr_plan.proofs.PlanListLaws.{plan_at-low}
use Rattle.mr_mend.specs.Rotations.{AreValidPlans}
use Rattle.mr_choices.specs.Rotations.{loss_at, losses_of}
use Rattle.mr_steps.specs.Losses.{loss_of}
use Rattle.mr_steps.specs.declared.choice_line.ChoiceLine.{ChoiceLine}
use Rattle.mr_choices.specs.declared.chosen.ChosenPlan.{ChosenPlan}
use Rattle.mr_choices.specs.Chosen.{chosen_by, lines_chosen, plans_chosen}
use Rattle.mr_choices.proofs.AtLaws.{survivors-same}

-- ---- the plans of all rotations

-- the plans and the lines of the first n rotations are the chosen ones, and each plan is valid
pub record ChosenBelow (m : Code) (lost budget n : ℕ) (plans : List PlanParts) (lines : List ChoiceLine) : Type 0 where
  pub are : plans ≡ plans_chosen m lost budget n
  pub lines_are : lines ≡ lines_chosen m lost budget n
  pub valid : (r : ℕ) → r < n → IsValidPlan (rotated m r) (survivors m lost) lost (chosen_by (rotated m r) lost budget).plan.set (chosen_by (rotated m r) lost budget).plan.recipes

module _ (m : Code) (lost budget : ℕ) where
  pub chosen-start : ChosenBelow m lost budget 0 [] []
  chosen-start = record { are = refl; lines_are = refl; valid = λ r low. absurd (omega arith) }

  pub chosen-turn : (n : ℕ) (plans : List PlanParts) (lines : List ChoiceLine) (chosen : ChosenPlan) → ChosenBelow m lost budget n plans lines → chosen ≡ chosen_by (rotated m n) lost budget
      → IsValidPlan (rotated m n) (survivors (rotated m n) lost) lost chosen.plan.set chosen.plan.recipes
      → ChosenBelow m lost budget (n + 1) (plans ++ chosen.plan ∷ []) (lines ++ chosen.line ∷ [])
  chosen-turn n plans lines chosen h is valid = record {
    are = (λ j. h.are j ++ (is j).plan ∷ []) ∙ sym (map-range_with_len_more (λ r. (chosen_by (rotated m r) lost budget).plan) 0 n n (omega arith));
    lines_are = (λ j. h.lines_are j ++ (is j).line ∷ []) ∙ sym (map-range_with_len_more (λ r. (chosen_by (rotated m r) lost budget).line) 0 n n (omega arith));
    valid = λ r low. ⊎_elim
        (λ (e : r ≡ n). subst (λ k. IsValidPlan (rotated m k) (survivors m lost) lost (chosen_by (rotated m k) lost budget).plan.set (chosen_by (rotated m k) lost budget).plan.recipes) (sym e) here)
        (λ (other : r ≡ n → ⊥). h.valid r (omega arith))
        (cases_eq r n);
  }
    where
      own_set : IsValidPlan (rotated m n) (survivors m lost) lost chosen.plan.set chosen.plan.recipes
      own_set = subst (λ a. IsValidPlan (rotated m n) a lost chosen.plan.set chosen.plan.recipes) (survivors-same m lost n) valid

      here : IsValidPlan (rotated m n) (survivors m lost) lost (chosen_by (rotated m n) lost budget).plan.set (chosen_by (rotated m n) lost budget).plan.recipes
      here = subst (λ (p : ChosenPlan). IsValidPlan (rotated m n) (survivors m lost) lost p.plan.set p.plan.recipes) is own_set

  -- the problem at a place
  pub problem-at : (n r : ℕ) (problems : List Loss) (p : Loss) → problems ≡ losses_of m lost n → r < length problems → p ≡ get_or problems r p
      → p ≡ loss_of (rotated m r) lost
  problem-at n r problems p are low is =
      let count : length problems ≡ n = ap length are ∙ length-map-range_with_len (loss_at m lost) 0 n in
      is ∙ ap (λ ps. get_or ps r p) are ∙ get_or-map-range_with_len (loss_at m lost) 0 n r r p (omega arith) (omega arith)
      ∙ (λ j. record { code = rotated m r; avail = sym (survivors-same m lost r) j; targets = lost })

  -- the problem, the plan and its line of one rotation, as the code takes them
  pub own-problem : (r : ℕ) (code : Code) (p : Loss) → code ≡ rotated m r → p ≡ loss_of (rotated m r) lost → p ≡ loss_of code p.targets
  own-problem r code p e is = is ∙ ap₂ loss_of (sym e) (ap (λ (q : Loss). q.targets) (sym is))

  pub own-chosen : (r : ℕ) (code : Code) (p : Loss) (chosen : ChosenPlan) → code ≡ rotated m r → p ≡ loss_of (rotated m r) lost → chosen ≡ chosen_by code p.targets budget
      → chosen ≡ chosen_by (rotated m r) lost budget
  own-chosen r code p chosen e is made = made ∙ ap₂ (λ k t. chosen_by k t budget) e (ap (λ (q : Loss). q.targets) is)

  pub own-valid : (r : ℕ) (code : Code) (p : Loss) (set : ℕ) (recipes : List Recipe) → code ≡ rotated m r → p ≡ loss_of (rotated m r) lost
      → IsValidPlan code (survivors code p.targets) p.targets set recipes → IsValidPlan (rotated m r) (survivors (rotated m r) lost) lost set recipes
  own-valid r code p set recipes e is valid =
      subst (λ t. IsValidPlan (rotated m r) (survivors (rotated m r) t) t set recipes) (ap (λ (q : Loss). q.targets) is)
      (subst (λ k. IsValidPlan k (survivors k p.targets) p.targets set recipes) e valid)

-- the code of a rotation in use
pub rotation-code : (l : Layout) (m : Code) (r : ℕ) → IsMatrixCode m → FitsCode l m → r < rotations l → codes_by l m r ≡ rotated m r
rotation-code l m r is fits low = go (l.version == 2) refl
  where
    go : (b : Bool) → (l.version == 2) ≡ b → cond b (rotated m (r % m.devices)) m ≡ rotated m r
    go true e = ap (rotated m) (mod-eq_of_lt (omega (arith, low, rotations-few l (omega (arith, fits.devices, is.shape.some_devices)), fits.devices)))
    go false e =
        let one : rotations l ≡ 1 = ap (λ b. cond b (max 1 (min l.devices l.stripes)) 1) e in
        let first : r ≡ 0 = omega arith in
        sym (rotated-zero m is.shape.some_symbols is.count) ∙ ap (rotated m) (sym first)

pub chosen-valid : (l : Layout) (m : Code) (lost budget n : ℕ) (plans : List PlanParts) (lines : List ChoiceLine) → IsMatrixCode m → FitsCode l m → n ≡ rotations l → ChosenBelow m lost budget n plans lines → AreValidPlans l m lost plans
unfolding recipes_at
chosen-valid l m lost budget n plans lines is fits all h =
    let count : length plans ≡ n = ap length h.are ∙ length-map-range_with_len (λ r. (chosen_by (rotated m r) lost budget).plan) 0 n in
    record {
      count = count ∙ all;
      valid = λ r low.
          let here : plan_at plans r ≡ (chosen_by (rotated m r) lost budget).plan =
          plan_at-low plans r (omega (arith, low, count, all)) ∙ ap (λ ps. get_or ps r no_plan) h.are
          ∙ get_or-map-range_with_len (λ k. (chosen_by (rotated m k) lost budget).plan) 0 n r r no_plan (omega (arith, low, all)) (omega arith) in
          let own = h.valid r (omega (arith, low, all)) in
          subst (λ (k : Code). IsValidPlan k (survivors m lost) lost (plan_at plans r).set (plan_at plans r).recipes) (sym (rotation-code l m r is fits low))
          (subst (λ (p : PlanParts). IsValidPlan (rotated m r) (survivors m lost) lost p.set p.recipes) (sym here) own);
    }

-- ---- the numbers of rotations

pub rotation-low : (l : Layout) (m : Code) (lost r : ℕ) (problems : List Loss) → IsMatrixCode m → FitsCode l m → problems ≡ losses_of m lost (rotations l) → r < length problems → r < m.devices
rotation-low l m lost r problems is fits are low =
    let count : length problems ≡ rotations l = ap length are ∙ length-map-range_with_len (loss_at m lost) 0 (rotations l) in
    omega (arith, low, count, rotations-few l (omega (arith, fits.devices, is.shape.some_devices)), fits.devices)

pub devices-few : (m : Code) → IsMatrixCode m → m.devices ≤ 128
devices-few m is = omega (arith, le-mul_of_pos_right m.devices is.shape.some_symbols, is.shape.few_symbols)

pub all-rotations : (l : Layout) (m : Code) (lost n : ℕ) (problems : List Loss) → problems ≡ losses_of m lost (rotations l) → n ≡ length problems → n ≡ rotations l
all-rotations l m lost n problems are all = all ∙ ap length are ∙ length-map-range_with_len (loss_at m lost) 0 (rotations l)
