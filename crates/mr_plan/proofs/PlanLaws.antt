-- Plans made of a set: each recipe is the one equation within the set, and the plan is valid.
use Rattle.std.proofs.Common.{◌≡◌, ℕ, ◌+◌, ◌^◌, ◌<◌, ◌≤◌, true, false, List, [], ◌∷◌, ◌++◌, map, length, Option, Some, None, unwrap_or, bit_xor, ⊎_elim, refl, sym, ap, ◌∙◌, arith}
use Rattle.std.specs.Int.{bit_at}
use Rattle.std.specs.Int.Bits.{xor_self}
use Rattle.std.proofs.lemmas.Bool.{both_ways, false_from_ne_true, eq-eqb}
use Rattle.std.proofs.lemmas.Nat.Bits.{bit_at-zero, bit_at_xor, bit_at-pow_same}
use Rattle.std.proofs.lemmas.List.{map-append, length-append}
use Rattle.std.proofs.lemmas.List.Elements.{All-map}
use Rattle.mr_model.specs.Sets.{has, within, below, any_member, find_subset}
use Rattle.mr_model.specs.Members.{members, TakesLeast}
use Rattle.mr_model.specs.Code.{Code, row, row_sum, is_equation, has_equation, kept, combination}
use Rattle.mr_model.specs.Plans.{Recipe, recipe, IsValidPlan}
use Rattle.mr_model.specs.Laws.{recipes_union, IsLean}
use Rattle.mr_model.proofs.SetLaws.{true-has, bit_at_cases, bit_at_below_cases, below-zero, Within, Within-antisym, Within-trans, Within-xor, Within-pow, Within-below, Within-le, within-true, member-below}
use Rattle.mr_model.proofs.Finding.{FindsSubset, find_subset-finds, true-all_members, any_member-find, in-filter_members}
use Rattle.mr_model.proofs.Kept.{is_equation-true, true-is_equation, has_equation-find, row_sum-xor, row_sum-single, kept-within, kept-in}
use Rattle.mr_model.proofs.Loops.{IsRest, IsRest-all, IsRest-none, IsRest-turn, members-turn, members-none}
use Rattle.mr_plan.specs.declared.kinds.Kind.{Kind}
use Rattle.mr_plan.specs.Plans.{IsPlan, recipe_in}
use Rattle.mr_plan.proofs.MemberLists.{members-All, members-Any, Any-map, members-upward}

module _ (m : Code) (a lost set : ℕ) (ok : IsLean m a lost set) where
  -- ---- independent rows: each member is kept

  member_alone : (i : ℕ) → bit_at set i ≡ 1 → has_equation m (below i set) i ≡ false
  member_alone i member = false_from_ne_true _ (λ e.
      let found = has_equation-find m (below i set) i e in
      let inside : Within found.set set = Within-trans found.set (below i set) set found.inside (Within-below i set) in
      let none : bit_xor found.set (2 ^ i) ≡ 0 = ok.independent.only_empty (bit_xor found.set (2 ^ i))
      (within-true _ set (Within-xor found.set (2 ^ i) set inside (Within-pow i set member)))
      (eq-eqb _ _ (row_sum-xor m found.set (2 ^ i) ∙ ap (λ v. bit_xor v (row_sum m (2 ^ i))) found.sums ∙ ap (bit_xor (row m i)) (row_sum-single m i) ∙ xor_self (row m i))) in
      let bits = ap (λ v. bit_at v i) none in
      absurd (omega (arith, bits, bit_at-zero i, bit_at_xor found.set (2 ^ i) i, bit_at-pow_same i, found.inside i, bit_at_below_cases i set i)))

  pub kept-all : kept m set ≡ set
  kept-all = Within-antisym (kept m set) set (kept-within m set)
      (λ i. ⊎_elim
      (λ member. omega (arith, member, kept-in m set i member (member_alone i member)))
      (λ out. omega (arith, out))
      (bit_at_cases set i))

  -- ---- the recipe of a lost symbol

  pub recipe-combination : (t : ℕ) → unwrap_or (combination m set (row m t)) 0 ≡ recipe m set t
  unfolding combination recipe
  recipe-combination t = ap (λ k. unwrap_or (find_subset k (is_equation m t)) 0) kept-all

  -- what the recipe of a symbol with an equation is
  record IsRecipe (t x : ℕ) : Type 0 where
    inside : Within x set
    sums : row_sum m x ≡ row m t

  found_recipe : (t : ℕ) (o : Option ℕ) → FindsSubset set (is_equation m t) o → has_equation m set t ≡ true → IsRecipe t (unwrap_or o 0)
  found_recipe t None h e = let found = has_equation-find m set t e in
      absurd (both_ways (is_equation m t found.set) (h found.set found.inside) (is_equation-true m t found.set found.sums))
  found_recipe t (Some x) h e = record { inside = h.inside; sums = true-is_equation m t x h.passes }

  recipe-is : (t : ℕ) → bit_at lost t ≡ 1 → IsRecipe t (recipe m set t)
  unfolding recipe
  recipe-is t member = found_recipe t (find_subset set (is_equation m t)) (find_subset-finds set (is_equation m t))
      (true-all_members lost (has_equation m set) ok.determined t member)

  -- ---- the plan is valid

  symbols_of : (xs : List ℕ) → map (λ (r : Recipe). r.symbol) (map (recipe_in m set) xs) ≡ xs
  symbols_of [] = refl
  symbols_of (x ∷ xs) = ap (λ ys. x ∷ ys) (symbols_of xs)

  -- each member of the set stands in a recipe
  member_needed : (i : ℕ) → bit_at set i ≡ 1 → any_member lost (λ t. has (recipe m set t) i) ≡ true
  unfolding recipes_union
  member_needed i member = in-filter_members set (λ j. any_member lost (λ t. has (recipe m set t) j)) i (ap (λ v. bit_at v i) ok.united ∙ member)

  pub plan_of-valid : lost < 2 ^ 128 → IsValidPlan m a lost set (map (recipe_in m set) (members lost))
  plan_of-valid low = record {
    survivors = ok.inside;
    symbols = symbols_of (members lost);
    inside = All-map (λ (r : Recipe). within r.equation set ≡ true) (recipe_in m set) (members lost)
        (members-All (λ t. within (recipe m set t) set ≡ true) lost (λ t member. within-true (recipe m set t) set (recipe-is t member).inside));
    equations = All-map (λ (r : Recipe). is_equation m r.symbol r.equation ≡ true) (recipe_in m set) (members lost)
        (members-All (λ t. is_equation m t (recipe m set t) ≡ true) lost (λ t member. is_equation-true m t (recipe m set t) (recipe-is t member).sums));
    needed = λ i member.
        let found = any_member-find lost (λ t. has (recipe m set t) i) (member_needed i member) in
        Any-map (λ (r : Recipe). bit_at r.equation i ≡ 1) (recipe_in m set) (members lost)
        (members-Any (λ t. bit_at (recipe m set t) i ≡ 1) lost found.number (member-below 128 lost found.number low found.member) found.member (true-has (recipe m set found.number) i found.passes));
  }

  pub plan_of-plan : (kind : Kind) → set < 2 ^ 128 → IsPlan (record { kind = kind; set = set; recipes = map (recipe_in m set) (members lost) })
  plan_of-plan kind low = record {
    set = low;
    recipes = members-upward (recipe_in m set) lost (λ t. refl) (λ t member. let le = Within-le (recipe m set t) set (recipe-is t member).inside in omega arith);
  }

-- ---- making the recipes one by one: those of the lost symbols below n are made

pub record IsMaking (m : Code) (lost set n rest : ℕ) (recipes : List Recipe) : Type 0 where
  pub to_come : IsRest lost n rest
  pub made : recipes ≡ map (recipe_in m set) (members (below n lost))
  pub few : length recipes ≤ n

pub IsMaking-start : (m : Code) (lost set : ℕ) (rs : List Recipe) → rs ≡ [] → IsMaking m lost set 0 lost rs
IsMaking-start m lost set rs e = record {
  to_come = IsRest-all lost;
  made = e ∙ ap (map (recipe_in m set)) (sym members-none ∙ ap members (sym (below-zero lost)));
  few = omega (arith, ap length e);
}

pub IsMaking-turn : (m : Code) (lost set n rest t left : ℕ) (rs rs' : List Recipe) → IsMaking m lost set n rest rs → TakesLeast rest t left
    → rs' ≡ rs ++ recipe_in m set t ∷ [] → IsMaking m lost set (t + 1) left rs'
IsMaking-turn m lost set n rest t left rs rs' h takes e =
    let turn = IsRest-turn lost n rest t left h.to_come takes in
    record {
      to_come = turn.rest;
      made = e ∙ ap (λ xs. xs ++ recipe_in m set t ∷ []) h.made ∙ sym (map-append (recipe_in m set) (members (below n lost)) (t ∷ []))
          ∙ ap (map (recipe_in m set)) (sym (members-turn lost n t left turn));
      few = omega (arith, h.few, turn.later, ap length e, length-append rs (recipe_in m set t ∷ []));
    }

pub IsMaking-end : (m : Code) (lost set n rest : ℕ) (rs : List Recipe) → IsMaking m lost set n rest rs → rest ≡ 0 → rs ≡ map (recipe_in m set) (members lost)
IsMaking-end m lost set n rest rs h e = h.made ∙ ap (λ x. map (recipe_in m set) (members x)) (IsRest-none lost n rest h.to_come e)
