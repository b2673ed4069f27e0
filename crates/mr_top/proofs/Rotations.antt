-- The plans that are used for the rotations of an image are valid, and are those that are wanted.
use Rattle.std.proofs.Common.{arith, ◌≡◌, ◌<◌, ◌^◌, ◌-◌, ℕ, List, [], ◌∷◌, length, Option, Some, None, IfOk, IfSome, Result, Ok, Err, refl, sym, ◌∙◌, ap, subst}
use Rattle.std.proofs.lemmas.Nat.Bits.{bit_at-lt}
use Rattle.std.proofs.lemmas.List.FromFn.{get_or-map-range_with_len, length-map-range_with_len}
use Rattle.mr_choices.specs.Handed.{plan_file_given}
use Rattle.mr_bits.specs.Matrices.{IsMatrixCode}
use Rattle.mr_bits.specs.declared.errors.NoMemory.{NoMemory}
use Rattle.mr_bits.proofs.RotatedRows.{matrix-rotated}
use Rattle.mr_choices.specs.Chosen.{chosen_by, lines_chosen, plans_chosen}
use Rattle.mr_choices.specs.Rotations.{undetermined_at}
use Rattle.mr_choices.specs.declared.chosen.ChosenPlan.{ChosenPlan}
use Rattle.mr_choices.proofs.AtLaws.{all-none, below-rotated, survivors-same}
use Rattle.mr_choices.proofs.ChosenLaws.{chosen-valid as chosen-all-valid, rotation-code}
use Rattle.mr_eq.specs.Problems.{IsLoss}
use Rattle.mr_eq.proofs.Losses.{determined-from}
use Rattle.mr_image.specs.Images.{Layout}
use Rattle.mr_image.specs.Rotated.{FitsCode, codes_by, rotations}
use Rattle.mr_image.proofs.RotatedLaws.{codes-first, rotations-few, rotations-one, rotations-some}
use Rattle.mr_mend.specs.Mending.{AreMendable, copied_set}
use Rattle.mr_mend.specs.Rotations.{AreValidPlans}
use Rattle.mr_mend.proofs.CopySets.{copied-survivors}
use Rattle.mr_mend.proofs.Planned.{planned-mendable, planned-symbols, survivors_cover, valid-one}
use Rattle.mr_model.specs.Code.{Code, undetermined}
use Rattle.mr_model.specs.Plans.{IsValidPlan}
use Rattle.mr_model.specs.Rotations.{rotated}
use Rattle.mr_model.proofs.SetLaws.{bit_at_minus}
use Rattle.mr_plan.specs.PlanLists.{no_plan, plan_at, recipes_at}
use Rattle.mr_plan.specs.Plans.{PlanParts, survivors}
use Rattle.mr_plan.proofs.PlanListLaws.{plan_at-low, plan_at-one, symbols-at}
use Rattle.mr_steps.specs.Losses.{loss_of}
use Rattle.mr_steps.specs.declared.choice_line.ChoiceLine.{ChoiceLine}
use Rattle.mr_steps.specs.declared.choice_line.ChoiceLine.TheVariants.{Given as GivenLine}
use Rattle.mr_steps.proofs.LostSymbols.{survivors-apart, survivors-below}
use Rattle.mr_choices.specs.declared.chosen.ChosenPlans.{ChosenPlans}
use Rattle.mr_top.specs.Headline.{IsPlanWanted}
use Rattle.mr_ready.specs.Reports.{line_at}
use Rattle.mr_top.specs.Rebuild.{lines_used, plans_used}
use Rattle.mr_top.proofs.CodewordsOwn.{Valid, chosen-valid}
use Rattle.mr_top.proofs.RebuildSteps.{rows-are}
use Rattle.mr_top.proofs.Wanting.{given-wanted, none-handed, plan-wanted, some-handed}

-- ---- the plans are valid

module _ (l : Layout) (m : Code) (lost : ℕ) (is : IsMatrixCode m) (fits : FitsCode l m) (below : lost < 2 ^ length m.rows)
    (none : undetermined_at m lost (rotations l) ≡ None) where
  -- each rotation in use is determined
  rotation-loss : (r : ℕ) → r < rotations l → IsLoss (loss_of (rotated m r) lost)
  rotation-loss r low = record {
    code_is = matrix-rotated m r is (omega (arith, low, rotations-few l (omega (arith, fits.devices, is.shape.some_devices)), fits.devices));
    avail_below = survivors-below (rotated m r) lost;
    targets_below = below-rotated m lost r below;
    apart = survivors-apart (rotated m r) lost;
    determined = determined-from (rotated m r) (survivors (rotated m r) lost) lost
        (ap (λ a. undetermined (rotated m r) a lost) (survivors-same m lost r) ∙ all-none m lost (rotations l) none r low);
  }

  searched-valid : (budget : ℕ) → AreValidPlans l m lost (plans_chosen m lost budget (rotations l))
  searched-valid budget =
      chosen-all-valid l m lost budget (rotations l) (plans_chosen m lost budget (rotations l)) (lines_chosen m lost budget (rotations l)) is fits refl (record {
        are = refl;
        lines_are = refl;
        valid = λ r low. subst (λ a. IsValidPlan (rotated m r) a lost (chosen_by (rotated m r) lost budget).plan.set (chosen_by (rotated m r) lost budget).plan.recipes)
            (survivors-same m lost r) (chosen-valid (rotated m r) lost budget (rotation-loss r low));
      })

  pub used-valid : (budget : ℕ) (handed : Option ChosenPlan) → IfSome handed (λ chosen. Valid m lost chosen.plan) → IfSome handed (λ _. l.version ≡ 1)
      → AreValidPlans l m lost (plans_used m lost budget (rotations l) handed)
  used-valid budget None valid version = searched-valid budget
  used-valid budget (Some handed) valid version = valid-one l m lost handed.plan version valid

  -- ---- they are wanted

  -- the plan of one rotation, and its line
  searched-wanted : (budget r : ℕ) → r < rotations l
      → IsPlanWanted (codes_by l m r) lost budget None (plan_at (plans_chosen m lost budget (rotations l)) r) (line_at (lines_chosen m lost budget (rotations l)) r)
  searched-wanted budget r low =
      let count : length (plans_chosen m lost budget (rotations l)) ≡ rotations l = length-map-range_with_len (λ k. (chosen_by (rotated m k) lost budget).plan) 0 (rotations l) in
      let plan : plan_at (plans_chosen m lost budget (rotations l)) r ≡ (chosen_by (rotated m r) lost budget).plan =
      plan_at-low (plans_chosen m lost budget (rotations l)) r (omega (arith, low, count))
      ∙ get_or-map-range_with_len (λ k. (chosen_by (rotated m k) lost budget).plan) 0 (rotations l) r r no_plan low (omega arith) in
      let line : line_at (lines_chosen m lost budget (rotations l)) r ≡ (chosen_by (rotated m r) lost budget).line =
      get_or-map-range_with_len (λ k. (chosen_by (rotated m k) lost budget).line) 0 (rotations l) r r (GivenLine 0) low (omega arith) in
      subst (λ (k : Code). IsPlanWanted k lost budget None (plan_at (plans_chosen m lost budget (rotations l)) r) (line_at (lines_chosen m lost budget (rotations l)) r))
      (sym (rotation-code l m r is fits low))
      (subst (λ (p : PlanParts). IsPlanWanted (rotated m r) lost budget None p (line_at (lines_chosen m lost budget (rotations l)) r)) (sym plan)
      (subst (λ (q : ChoiceLine). IsPlanWanted (rotated m r) lost budget None (chosen_by (rotated m r) lost budget).plan q) (sym line)
      (plan-wanted (rotated m r) lost budget (rotation-loss r low))))

  handed-wanted : (budget r : ℕ) (bytes : List ℕ) (chosen : ChosenPlan) → l.version ≡ 1 → r < rotations l → plan_file_given m lost (Some bytes) ≡ Ok (Some chosen)
      → IsPlanWanted (codes_by l m r) lost budget (Some bytes) (plan_at (chosen.plan ∷ []) r) (line_at (chosen.line ∷ []) r)
  handed-wanted budget r bytes chosen version low reads =
      let first : r ≡ 0 = omega (arith, low, rotations-one l version) in
      subst (λ (k : Code). IsPlanWanted k lost budget (Some bytes) (plan_at (chosen.plan ∷ []) r) (line_at (chosen.line ∷ []) r)) (sym (codes-first l m r version))
      (subst (λ (p : PlanParts). IsPlanWanted m lost budget (Some bytes) p (line_at (chosen.line ∷ []) r)) (sym (plan_at-one chosen.plan r))
      (subst (λ k. IsPlanWanted m lost budget (Some bytes) chosen.plan (line_at (chosen.line ∷ []) k)) (sym first)
      (given-wanted m lost budget bytes chosen reads)))

  pub used-wanted : (budget : ℕ) (file : Option (List ℕ)) (handed : Option ChosenPlan) → plan_file_given m lost file ≡ Ok handed → IfSome handed (λ _. l.version ≡ 1)
      → (r : ℕ) → r < rotations l
      → IsPlanWanted (codes_by l m r) lost budget file (plan_at (plans_used m lost budget (rotations l) handed) r) (line_at (lines_used m lost budget (rotations l) handed) r)
  used-wanted budget None None reads version r low = searched-wanted budget r low
  used-wanted budget (Some bytes) (Some chosen) reads version r low = handed-wanted budget r bytes chosen version low reads
  used-wanted budget None (Some chosen) reads version r low = absurd (none-handed m lost chosen reads)
  used-wanted budget (Some bytes) None reads version r low = absurd (some-handed m lost bytes reads)

-- ---- how many there are

pub lines-count : (m : Code) (lost budget : ℕ) (l : Layout) (handed : Option ChosenPlan) → IfSome handed (λ _. l.version ≡ 1)
    → length (lines_used m lost budget (rotations l) handed) ≡ rotations l
lines-count m lost budget l None version = length-map-range_with_len (λ r. (chosen_by (rotated m r) lost budget).line) 0 (rotations l)
lines-count m lost budget l (Some handed) version = sym (rotations-one l version)

-- ---- the symbols that are copied

-- the symbols that the plan of a stripe does not rebuild are the survivors
pub plans-copied : (l : Layout) (m : Code) (lost : ℕ) (plans : List PlanParts) → IsMatrixCode m → FitsCode l m → AreValidPlans l m lost plans
    → (s : ℕ) → copied_set l (recipes_at plans s) ≡ survivors m lost
plans-copied l m lost plans is fits are s =
    let rows = rows-are m l is fits in
    copied-survivors l (survivors m lost) lost (recipes_at plans s) (omega (arith, is.shape.few_symbols, rows, is.count)) (survivors_cover l m lost is fits)
    (λ i survives. omega (arith, survives, bit_at_minus (2 ^ length m.rows - 1) lost i, bit_at-lt (2 ^ length m.rows - 1) i, bit_at-lt lost i))
    (symbols-at plans s 0 (planned-symbols l m lost plans is fits are) ∙ (are.valid 0 (omega (arith, rotations-some l))).symbols)

-- the plans may be carried out
pub plans-mendable : (l : Layout) (m : Code) (lost : ℕ) (plans : List PlanParts) → IsMatrixCode m → FitsCode l m → AreValidPlans l m lost plans
    → lost < 2 ^ length m.rows → AreMendable l plans
plans-mendable l m lost plans is fits are below =
    planned-mendable l m lost plans is fits are (subst (λ n. lost < 2 ^ n) (rows-are m l is fits) below)

-- the one plan that is handed in, where there was memory for it
pub one-valid : (l : Layout) (m : Code) (lost : ℕ) (handed : Option ChosenPlan) (chosen : ChosenPlan) (result : Result ChosenPlans NoMemory) → handed ≡ Some chosen
    → IfSome handed (λ h. Valid m lost h.plan) → IfSome handed (λ _. l.version ≡ 1) → IfOk result (λ made. made.plans ≡ chosen.plan ∷ [])
    → IfOk result (λ made. AreValidPlans l m lost made.plans)
one-valid l m lost handed chosen (Ok made) is valid version plans =
    subst (λ (ps : List PlanParts). AreValidPlans l m lost ps) (sym plans)
    (valid-one l m lost chosen.plan (subst (λ h. IfSome h (λ _. l.version ≡ 1)) is version) (subst (λ h. IfSome h (λ h. Valid m lost h.plan)) is valid))
one-valid l m lost handed chosen (Err want) is valid version plans = tt
