-- The first fault that the checker finds is the first fault of the plan.
use Rattle.std.proofs.Common.{◌≡◌, ℕ, ◌==◌, Bool, true, false, not, nat_lt, cond, List, [], ◌∷◌, All, Option, Some, None, ◌⊎◌, inl, inr, ⊎_elim, refl, sym, ap, ap₂, subst, ◌∙◌, arith}
use Rattle.std.specs.Prelude.{Result, IfErr}
use Rattle.std.specs.Option.{option_map}
use Rattle.std.specs.Int.{bit_at}
use Rattle.std.proofs.lemmas.Bool.{both_ways, not-true, not-false, ltb-true, ltb-false, eqb-false}
use Rattle.std.proofs.lemmas.List.Elements.{All-nil, All-cons}
use Rattle.mr_model.specs.Sets.{has, within, find_member}
use Rattle.mr_model.specs.Members.{members}
use Rattle.mr_model.specs.Code.{Code, is_equation}
use Rattle.mr_model.specs.Plans.{Recipe}
use Rattle.mr_model.proofs.SetLaws.{has-true, true-has}
use Rattle.mr_model.proofs.Finding.{FindsMember, find_member-finds}
use Rattle.mr_plan.specs.declared.errors.Wrong.{Wrong}
use Rattle.mr_plan.specs.declared.errors.Why.TheVariants.{NotSurvivor, Missing, Stray, Outside, Sum, Spare}
use Rattle.mr_plan.specs.Plans.{PlanParts, survivors}
use Rattle.mr_plan.specs.Checks.{wrong, fault_or, survivor_fault, expected_fault, symbol_fault, recipe_fault, recipes_fault, is_needed, spare_fault, first_fault, sound_unless}
use Rattle.mr_plan.specs.Faults.{IsLeastFailure, BeginsAbove, IsFirstLacked, IsFirstFaulty, recipe_symbols, IsSound, IsOutside, IsNoSum, IsNeeded, IsFirstFault}
use Rattle.mr_plan.proofs.CheckLaws.{survivors-within, expected_none, symbols-same, both_none, recipe_parts, any_bits, bits_any}

-- a fault of two is the first, or the second where there is no first
fault-of : (a b : Option Wrong) (w : Wrong) → fault_or a b ≡ Some w → (a ≡ Some w) ⊎ ((a ≡ None) × (b ≡ Some w))
fault-of (Some v) b w e = inl e
fault-of None b w e = inr (refl, e)

-- ---- the least member of a set

record IsMapped (f : ℕ → Wrong) (o : Option ℕ) (w : Wrong) : Type 0 where
  number : ℕ
  found : o ≡ Some number
  made : f number ≡ w

mapped : (f : ℕ → Wrong) (o : Option ℕ) (w : Wrong) → option_map f o ≡ Some w → IsMapped f o w
mapped f None w e = cc
mapped f (Some i) w e = record { number = i; found = refl; made = cc }

least-failure : (set : ℕ) (test : ℕ → Bool) (P : ℕ → Type 0) (s : ℕ) → ((i : ℕ) → test i ≡ true → P i) → ((i : ℕ) → P i → test i ≡ true)
    → find_member set (λ i. not (test i)) ≡ Some s → IsLeastFailure set P s
least-failure set test P s tells told e = go (subst (FindsMember set (λ i. not (test i))) e (find_member-finds set (λ i. not (test i))))
  where
    go : FindsMember set (λ i. not (test i)) (Some s) → IsLeastFailure set P s
    go h = record {
      member = h.member;
      fails = λ p. both_ways (test s) (not-true _ h.passes) (told s p);
      before = λ i low member. tells i (not-false _ (h.least i low member));
    }

-- ---- the symbols of the recipes

lacked-later : (t s x : ℕ) (xs ys : List ℕ) → t ≡ s → IsFirstLacked xs ys x → IsFirstLacked (t ∷ xs) (s ∷ ys) x
lacked-later t s x xs ys e h = record {
  agreed = t ∷ h.agreed;
  rest = h.rest;
  others_rest = h.others_rest;
  here = ap (λ l. t ∷ l) h.here;
  there = ap₂ (λ i l. i ∷ l) (sym e) h.there;
  lacked = h.lacked;
}

lacked-here : (x : ℕ) (xs ys : List ℕ) → BeginsAbove x ys → IsFirstLacked (x ∷ xs) ys x
lacked-here x xs ys above = record { agreed = []; rest = xs; others_rest = ys; here = refl; there = refl; lacked = above }

-- which symbol is missing or stray
data IsDifference (lost symbols : List ℕ) (w : Wrong) : Type 0 where
  missing : (t : ℕ) → wrong Missing t ≡ w → IsFirstLacked lost symbols t → IsDifference lost symbols w
  stray : (s : ℕ) → wrong Stray s ≡ w → IsFirstLacked symbols lost s → IsDifference lost symbols w

difference-here : (t s : ℕ) (ts ss : List ℕ) (w : Wrong) → expected_fault (Some t) s ≡ Some w → IsDifference (t ∷ ts) (s ∷ ss) w
difference-here t s ts ss w e = go (t == s) (nat_lt t s) refl refl e
  where
    go : (b c : Bool) → (t == s) ≡ b → nat_lt t s ≡ c → cond b None (cond c (Some (wrong Missing t)) (Some (wrong Stray s))) ≡ Some w → IsDifference (t ∷ ts) (s ∷ ss) w
    go true c is less e = cc
    go false true is less e = let same : wrong Missing t ≡ w = cc in missing t same (lacked-here t ts (s ∷ ss) (ltb-true _ _ less))
    go false false is less e = let same : wrong Stray s ≡ w = cc in stray s same (lacked-here s ss (t ∷ ts) (omega (arith, eqb-false t s is, ltb-false _ _ less)))

difference-later : (t s : ℕ) (ts ss : List ℕ) (w : Wrong) → t ≡ s → IsDifference ts ss w → IsDifference (t ∷ ts) (s ∷ ss) w
difference-later t s ts ss w e (missing x is h) = missing x is (lacked-later t s x ts ss e h)
difference-later t s ts ss w e (stray x is h) = stray x is (lacked-later s t x ss ts (sym e) h)

difference : (ts ss : List ℕ) (w : Wrong) → symbol_fault ts ss ≡ Some w → IsDifference ts ss w
unfolding symbol_fault
difference [] [] w e = cc
difference (t ∷ ts) [] w e = let same : wrong Missing t ≡ w = cc in missing t same (lacked-here t ts [] tt)
difference [] (s ∷ ss) w e = let same : wrong Stray s ≡ w = cc in stray s same (lacked-here s ss [] tt)
difference (t ∷ ts) (s ∷ ss) w e = ⊎_elim
    (λ here. difference-here t s ts ss w here)
    (λ rest. difference-later t s ts ss w (expected_none t s rest.0) (difference ts ss w rest.1))
    (fault-of (expected_fault (Some t) s) (symbol_fault ts ss) w e)

-- ---- the recipes

module _ (m : Code) (set : ℕ) where
  data IsFaulty (rs : List Recipe) (w : Wrong) : Type 0 where
    outside : (s : ℕ) → wrong Outside s ≡ w → IsFirstFaulty rs (IsSound m set) (IsOutside set) s → IsFaulty rs w
    no_sum : (s : ℕ) → wrong Sum s ≡ w → IsFirstFaulty rs (IsSound m set) (IsNoSum m set) s → IsFaulty rs w

  faulty-first : (Fault : Recipe → Type 0) (r : Recipe) (rs : List Recipe) → Fault r → IsFirstFaulty (r ∷ rs) (IsSound m set) Fault r.symbol
  faulty-first Fault r rs fault = record { earlier = []; recipe = r; later = rs; all = refl; sound = All-nil (IsSound m set); symbol = refl; fault = fault }

  faulty-behind : (Fault : Recipe → Type 0) (r : Recipe) (rs : List Recipe) (s : ℕ) → IsSound m set r → IsFirstFaulty rs (IsSound m set) Fault s
      → IsFirstFaulty (r ∷ rs) (IsSound m set) Fault s
  faulty-behind Fault r rs s sound h = record {
    earlier = r ∷ h.earlier;
    recipe = h.recipe;
    later = h.later;
    all = ap (λ l. r ∷ l) h.all;
    sound = All-cons (IsSound m set) r h.earlier sound h.sound;
    symbol = h.symbol;
    fault = h.fault;
  }

  faulty-here : (r : Recipe) (rs : List Recipe) (w : Wrong) → recipe_fault m set r ≡ Some w → IsFaulty (r ∷ rs) w
  faulty-here r rs w e = go (within r.equation set) (is_equation m r.symbol r.equation) refl refl e
    where
      go : (b c : Bool) → within r.equation set ≡ b → is_equation m r.symbol r.equation ≡ c
          → cond (not b) (Some (wrong Outside r.symbol)) (cond (not c) (Some (wrong Sum r.symbol)) None) ≡ Some w → IsFaulty (r ∷ rs) w
      go false c inside sums e = let same : wrong Outside r.symbol ≡ w = cc in outside r.symbol same (faulty-first (IsOutside set) r rs inside)
      go true false inside sums e = let same : wrong Sum r.symbol ≡ w = cc in no_sum r.symbol same (faulty-first (IsNoSum m set) r rs (record { inside = inside; no_sum = sums }))
      go true true inside sums e = cc

  faulty-later : (r : Recipe) (rs : List Recipe) (w : Wrong) → IsSound m set r → IsFaulty rs w → IsFaulty (r ∷ rs) w
  faulty-later r rs w sound (outside s is h) = outside s is (faulty-behind (IsOutside set) r rs s sound h)
  faulty-later r rs w sound (no_sum s is h) = no_sum s is (faulty-behind (IsNoSum m set) r rs s sound h)

  sound-of : (r : Recipe) → recipe_fault m set r ≡ None → IsSound m set r
  sound-of r e = let parts = recipe_parts (within r.equation set) (is_equation m r.symbol r.equation) _ _ e in record { inside = parts.0; sum = parts.1 }

  faulty : (rs : List Recipe) (w : Wrong) → recipes_fault m set rs ≡ Some w → IsFaulty rs w
  unfolding recipes_fault
  faulty [] w e = cc
  faulty (r ∷ rs) w e = ⊎_elim
      (λ here. faulty-here r rs w here)
      (λ rest. faulty-later r rs w (sound-of r rest.0) (faulty rs w rest.1))
      (fault-of (recipe_fault m set r) (recipes_fault m set rs) w e)

  all-sound : (rs : List Recipe) → recipes_fault m set rs ≡ None → All (IsSound m set) rs
  unfolding recipes_fault
  all-sound [] e = All-nil (IsSound m set)
  all-sound (r ∷ rs) e =
      let parts = both_none (recipe_fault m set r) (recipes_fault m set rs) e in
      All-cons (IsSound m set) r rs (sound-of r parts.0) (all-sound rs parts.1)

-- ---- the first fault of a plan

module _ (m : Code) (lost : ℕ) (p : PlanParts) (w : Wrong) where
  spare : within p.set (survivors m lost) ≡ true → recipe_symbols p ≡ members lost → All (IsSound m p.set) p.recipes
      → spare_fault p.set p.recipes ≡ Some w → IsFirstFault m lost p w
  spare survives recipes sound e =
      let h = mapped (wrong Spare) (find_member p.set (λ i. not (is_needed p.recipes i))) w e in
      subst (IsFirstFault m lost p) h.made (
        survives,
        recipes,
        sound,
        least-failure p.set (is_needed p.recipes) (IsNeeded p) h.number (λ i is. any_bits i p.recipes is) (λ i is. bits_any i p.recipes is) h.found,
      )

  unsound : within p.set (survivors m lost) ≡ true → recipe_symbols p ≡ members lost → IsFaulty m p.set p.recipes w → IsFirstFault m lost p w
  unsound survives recipes (outside s is h) = subst (IsFirstFault m lost p) is (survives, recipes, h)
  unsound survives recipes (no_sum s is h) = subst (IsFirstFault m lost p) is (survives, recipes, h)

  different : within p.set (survivors m lost) ≡ true → IsDifference (members lost) (recipe_symbols p) w → IsFirstFault m lost p w
  different survives (missing t is h) = subst (IsFirstFault m lost p) is (survives, h)
  different survives (stray s is h) = subst (IsFirstFault m lost p) is (survives, h)

  no_survivor : survivor_fault m lost p.set ≡ Some w → IsFirstFault m lost p w
  no_survivor e =
      let h = mapped (wrong NotSurvivor) (find_member p.set (λ i. not (has (survivors m lost) i))) w e in
      subst (IsFirstFault m lost p) h.made
      (least-failure p.set (has (survivors m lost)) (λ i. bit_at (survivors m lost) i ≡ 1) h.number
      (λ i is. true-has (survivors m lost) i is) (λ i is. has-true (survivors m lost) i is) h.found)

  pub fault-first : first_fault m lost p ≡ Some w → IsFirstFault m lost p w
  fault-first e = ⊎_elim no_survivor
      (λ a. let survives = survivors-within m lost p.set a.0 in ⊎_elim
      (λ here. different survives (difference (members lost) (recipe_symbols p) w here))
      (λ b. let recipes = symbols-same (members lost) (recipe_symbols p) b.0 in ⊎_elim
      (λ here. unsound survives recipes (faulty m p.set p.recipes w here))
      (λ c. spare survives recipes (all-sound m p.set p.recipes c.0) c.1)
      (fault-of (recipes_fault m p.set p.recipes) (spare_fault p.set p.recipes) w b.1))
      (fault-of (symbol_fault (members lost) (recipe_symbols p)) _ w a.1))
      (fault-of (survivor_fault m lost p.set) _ w e)

-- an answer with a fault has the first
pub if_fault : (m : Code) (lost : ℕ) (p : PlanParts) (answer : Result (Unit {0}) Wrong) → answer ≡ sound_unless (first_fault m lost p) → IfErr answer (IsFirstFault m lost p)
if_fault m lost p answer e = go (first_fault m lost p) refl
  where
    go : (o : Option Wrong) → first_fault m lost p ≡ o → IfErr answer (IsFirstFault m lost p)
    go None is = subst (λ r. IfErr r (IsFirstFault m lost p)) (sym (e ∙ ap sound_unless is)) tt
    go (Some w) is = subst (λ r. IfErr r (IsFirstFault m lost p)) (sym (e ∙ ap sound_unless is)) (fault-first m lost p w is)
