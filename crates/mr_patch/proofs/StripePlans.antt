-- The plan of each stripe's pattern: it is found, reads the set of the stripe, and may be carried out.
use Rattle.std.proofs.Common.{◌≡◌, ℕ, zero, suc, ◌*◌, ◌%◌, ◌^◌, ◌<◌, ◌≤◌, ◌==◌, Bool, true, false, cond, ⊎_elim, List, [], map, length, get_or, Any, Result, Ok, Option, refl, sym, ap, subst, ◌∙◌, arith, pow_mono}
use Rattle.std.specs.Prelude.{is_some, IsOk}
use Rattle.std.specs.Int.{bit_at}
use Rattle.std.proofs.lemmas.Bool.{false≢true}
use Rattle.std.proofs.lemmas.List.{length-map}
use Rattle.std.proofs.lemmas.Nat.{mod_below}
use Rattle.std.proofs.lemmas.Nat.Bits.{same_from_bits, bit_at-zero}
use Rattle.mr_model.specs.Members.{members}
use Rattle.mr_model.specs.Code.{Code}
use Rattle.mr_model.specs.Rotations.{rotated}
use Rattle.mr_model.specs.Search.{Choice, Least, Spent, chosen}
use Rattle.mr_model.specs.Plans.{Recipe, IsValidPlan}
use Rattle.mr_model.specs.Laws.{IsLean}
use Rattle.mr_model.proofs.CostLaws.{price_law}
use Rattle.mr_model.proofs.Loops.{members-none}
use Rattle.mr_model.proofs.RotationLaws.{rotated-zero}
use Rattle.mr_model.proofs.SearchSingle.{choice-lean}
use Rattle.mr_model.proofs.SetLaws.{bit_at_cases}
use Rattle.mr_bits.specs.Matrices.{IsMatrixCode}
use Rattle.mr_bits.proofs.MatrixLaws.{matrix-priced}
use Rattle.mr_eq.proofs.SingleLaws.{survivors-below, determined-none}
use Rattle.mr_image.specs.Images.{Layout, IsLayout, stripe_symbols}
use Rattle.mr_image.proofs.RotatedLaws.{codes-of, codes-count}
use Rattle.mr_plan.specs.Plans.{PlanParts, recipe_in}
use Rattle.mr_plan.proofs.PlanLaws.{plan_of-valid}
use Rattle.mr_choices.specs.Chosen.{choice_for, plan_by}
use Rattle.mr_mend.specs.Mending.{IsMendable, IsUpwards, has_recipe}
use Rattle.mr_mend.proofs.Lists.{symbol_at}
use Rattle.mr_mend.proofs.Mendable.{mendable-from_valid}
use Rattle.mr_cache.specs.Planning.{plan_for, plan_of_pattern, unless_undetermined}
use Rattle.mr_sector.proofs.PatchLaws.{found-member, none-member}
use Rattle.mr_patch.specs.Damages.{DamageParts, IsDamage, IsDetermined, code_at, failed_at, others_at, rotation_at, pattern_at, set_at, recipes_at}

-- ---- the plan of a choice

plan-set : (m : Code) (x : ℕ) (c : Choice) → (plan_by m x c).set ≡ chosen c
unfolding chosen
plan-set m x (Least set work) = refl
plan-set m x (Spent set) = refl

plan-recipes : (m : Code) (x : ℕ) (c : Choice) → (plan_by m x c).recipes ≡ map (recipe_in m (chosen c)) (members x)
unfolding chosen
plan-recipes m x (Least set work) = refl
plan-recipes m x (Spent set) = refl

same-plan : (a b : PlanParts) → ◌≡◌ {A = Result PlanParts ℕ} (Ok a) (Ok b) → a ≡ b
same-plan a b h = cc

-- ---- strictly upwards

upwards-least : (xs : List ℕ) (k : ℕ) → IsUpwards xs → k < length xs → k ≤ get_or xs k 0
upwards-least xs zero up low = omega arith
upwards-least xs (suc k) up low = omega (arith, upwards-least xs k up (omega (arith, low)), up k (suc k) (omega arith) low)

-- there are no more recipes than symbols in a stripe
pub recipes-few : (l : Layout) (plan : PlanParts) → IsMendable l plan → length plan.recipes ≤ stripe_symbols l
recipes-few l plan may = go (length plan.recipes) refl
  where
    go : (n : ℕ) → length plan.recipes ≡ n → n ≤ stripe_symbols l
    go zero is = omega arith
    go (suc k) is =
        let d : Recipe = record { symbol = 0; equation = 0 } in
        let here : k < length plan.recipes = omega (arith, is) in
        let inside : k < length (map (λ (r : Recipe). r.symbol) plan.recipes) = omega (arith, here, length-map plan.recipes (λ (r : Recipe). r.symbol)) in
        omega (arith, upwards-least (map (λ (r : Recipe). r.symbol) plan.recipes) k may.upwards inside, symbol_at plan.recipes k d here, may.symbols k d here)

-- ---- the stripes

module _ (d : DamageParts) (is : IsMatrixCode d.code) (damage : IsDamage d) where
  pub rows-count : length d.code.rows ≡ stripe_symbols d.layout
  rows-count = is.count ∙ sym (λ j. damage.fits.devices j * damage.fits.symbols j)

  pub rows-at : (s : ℕ) → length (code_at d s).rows ≡ stripe_symbols d.layout
  rows-at s = codes-count d.layout d.code s is.shape.some_devices ∙ rows-count

  pub rotation-low : (s : ℕ) → rotation_at d s < d.code.devices
  rotation-low s = go (d.layout.version == 2)
    where
      some : 0 < d.layout.devices
      some = omega (arith, is.shape.some_devices, damage.fits.devices)

      go : (b : Bool) → cond b (s % d.layout.devices) 0 < d.code.devices
      go true = omega (arith, mod_below s d.layout.devices some, damage.fits.devices)
      go false = omega (arith, is.shape.some_devices)

  -- the code of a stripe is that of its rotation
  pub code-rotated : (s : ℕ) → rotated d.code (rotation_at d s) ≡ code_at d s
  code-rotated s = go (d.layout.version == 2)
    where
      go : (b : Bool) → rotated d.code (cond b (s % d.layout.devices) 0) ≡ cond b (rotated d.code (s % d.code.devices)) d.code
      go true = ap (λ n. rotated d.code (s % n)) damage.fits.devices
      go false = rotated-zero d.code is.shape.some_symbols is.count

module _ (d : DamageParts) (may : IsLayout d.layout) (is : IsMatrixCode d.code) (damage : IsDamage d) (known : IsDetermined d) (budget : ℕ) (s : ℕ) (here : s < d.layout.stripes) where
  matrix-at : IsMatrixCode (code_at d s)
  matrix-at = (codes-of d.layout d.code is damage.fits).matrix s here

  pub failed-few : failed_at d s < 2 ^ 128
  failed-few =
      let most : 2 ^ stripe_symbols d.layout ≤ 2 ^ 128 = pow_mono may.few_symbols in
      omega (arith, known.few s here, most)

  pub failed-low : failed_at d s < 2 ^ length d.code.rows
  failed-low = subst (λ n. failed_at d s < 2 ^ n) (sym (rows-count d is damage)) (known.few s here)

  -- the pattern of the stripe has a plan
  pub pattern-planned : plan_of_pattern d.code budget (pattern_at d s) ≡ Ok (plan_by (code_at d s) (failed_at d s) (choice_for (code_at d s) (failed_at d s) budget))
  unfolding plan_of_pattern
  pattern-planned =
      ap (λ (k : Code). plan_for k budget (failed_at d s)) (code-rotated d is damage s)
      ∙ ap (λ (o : Option ℕ). unless_undetermined o (plan_by (code_at d s) (failed_at d s) (choice_for (code_at d s) (failed_at d s) budget)))
      (determined-none (code_at d s) (others_at d s) (failed_at d s) (known.determined s here))

  pub pattern-ok : IsOk (plan_of_pattern d.code budget (pattern_at d s))
  pattern-ok = subst (λ (r : Result PlanParts ℕ). IsOk r) (sym pattern-planned) refl

  lean : IsLean (code_at d s) (others_at d s) (failed_at d s) (set_at d budget s)
  lean = choice-lean (code_at d s) (others_at d s) (failed_at d s) budget failed-few (known.determined s here)
      (price_law (code_at d s) (others_at d s) (matrix-priced (code_at d s) matrix-at) (survivors-below (code_at d s) (failed_at d s)))

  valid : IsValidPlan (code_at d s) (others_at d s) (failed_at d s) (set_at d budget s) (recipes_at d budget s)
  valid = plan_of-valid (code_at d s) (others_at d s) (failed_at d s) (set_at d budget s) lean failed-few

  -- the plan that the cache has for it
  module _ (plan : PlanParts) (found : plan_of_pattern d.code budget (pattern_at d s) ≡ Ok plan) where
    own : plan ≡ plan_by (code_at d s) (failed_at d s) (choice_for (code_at d s) (failed_at d s) budget)
    own = same-plan plan (plan_by (code_at d s) (failed_at d s) (choice_for (code_at d s) (failed_at d s) budget)) (sym found ∙ pattern-planned)

    pub own-set : plan.set ≡ set_at d budget s
    own-set = ap (λ (p : PlanParts). p.set) own ∙ plan-set (code_at d s) (failed_at d s) (choice_for (code_at d s) (failed_at d s) budget)

    pub own-recipes : plan.recipes ≡ recipes_at d budget s
    own-recipes = ap (λ (p : PlanParts). p.recipes) own ∙ plan-recipes (code_at d s) (failed_at d s) (choice_for (code_at d s) (failed_at d s) budget)

    pub own-mendable : IsMendable d.layout plan
    own-mendable = mendable-from_valid d.layout (code_at d s) (others_at d s) (failed_at d s) plan
        (subst (λ n. others_at d s < 2 ^ n) (rows-at d is damage s) (survivors-below (code_at d s) (failed_at d s)))
        (known.few s here)
        (subst (λ (recipes : List Recipe). IsValidPlan (code_at d s) (others_at d s) (failed_at d s) plan.set recipes) (sym own-recipes)
        (subst (λ (x : ℕ). IsValidPlan (code_at d s) (others_at d s) (failed_at d s) x (recipes_at d budget s)) (sym own-set) valid))

  -- nothing is read where nothing fails
  pub none-read : failed_at d s ≡ 0 → members (set_at d budget s) ≡ []
  none-read none = ap members (same_from_bits (set_at d budget s) 0 (λ i. ⊎_elim
      (λ (member : bit_at (set_at d budget s) i ≡ 1). absurd (no-any (subst (λ (xs : List Recipe). Any (λ (r : Recipe). bit_at r.equation i ≡ 1) xs) no-recipes (valid.needed i member))))
      (λ (out : bit_at (set_at d budget s) i ≡ 0). out ∙ sym (bit_at-zero i))
      (bit_at_cases (set_at d budget s) i))) ∙ members-none
    where
      no-recipes : recipes_at d budget s ≡ []
      no-recipes = ap (map (recipe_in (code_at d s) (set_at d budget s))) (ap members none ∙ members-none)

      no-any : {P : Recipe → Type 0} → Any P [] → ⊥
      no-any h = omega (arith, h.2)

-- ---- which symbols have a recipe

module _ (d : DamageParts) (budget s : ℕ) where
  pub failed-has : (i : ℕ) → i < 128 → bit_at (failed_at d s) i ≡ 1 → has_recipe (recipes_at d budget s) i ≡ true
  failed-has i low member = ap is_some (found-member (code_at d s) (set_at d budget s) (failed_at d s) i low member)

  pub other-lacks : (i : ℕ) → bit_at (failed_at d s) i ≡ 0 → has_recipe (recipes_at d budget s) i ≡ false
  other-lacks i out = ap is_some (none-member (code_at d s) (set_at d budget s) (failed_at d s) i out)

  pub has-failed : (i : ℕ) → has_recipe (recipes_at d budget s) i ≡ true → bit_at (failed_at d s) i ≡ 1
  has-failed i holds = ⊎_elim
      (λ (member : bit_at (failed_at d s) i ≡ 1). member)
      (λ (out : bit_at (failed_at d s) i ≡ 0). absurd (false≢true (sym (other-lacks i out) ∙ holds)))
      (bit_at_cases (failed_at d s) i)

  pub lacks-other : (i : ℕ) → i < 128 → has_recipe (recipes_at d budget s) i ≡ false → bit_at (failed_at d s) i ≡ 0
  lacks-other i low lacks = ⊎_elim
      (λ (member : bit_at (failed_at d s) i ≡ 1). absurd (false≢true (sym lacks ∙ failed-has i low member)))
      (λ (out : bit_at (failed_at d s) i ≡ 0). out)
      (bit_at_cases (failed_at d s) i)
