-- The first fault of a plan: how each step of the checker finds its part, and that no fault is the same as valid.
use Rattle.std.proofs.Common.{◌≡◌, ◌↔◌, ℕ, ◌+◌, ◌-◌, ◌^◌, ◌<◌, ◌≤◌, ◌==◌, ◌||◌, Bool, true, false, not, nat_lt, cond, List, [], ◌∷◌, map, length, get_or, take, drop, All, Any, Option, Some, None, Ok, Err, bit_or, ⊎_elim, refl, sym, ap, ap₂, subst, ◌∙◌, arith, pow_pos}
use Rattle.std.specs.Prelude.{Result, IsOk}
use Rattle.std.specs.Option.{option_map}
use Rattle.std.specs.Int.{bit_at}
use Rattle.std.proofs.Math.Seq.{drop-cons}
use Rattle.std.proofs.Math.Numerals.{add-one}
use Rattle.std.proofs.lemmas.Bool.{both_ways, not-false, not_from_true, not_from_false, true_from_ne_false, eqb-true, eq-eqb}
use Rattle.std.proofs.lemmas.Nat.Bits.{bit_at-zero, bit_at_or, bit_at-lt}
use Rattle.std.proofs.lemmas.List.{drop_all}
use Rattle.std.proofs.lemmas.List.Elements.{All-nil, All-cons, All-head, All-tail}
use Rattle.std.proofs.lemmas.List.Folds.{list_any_more, Any-from_list_any, list_any-from_Any}
use Rattle.mr_model.specs.Sets.{has, within, minus, find_member}
use Rattle.mr_model.specs.Members.{members, NextMember}
use Rattle.mr_model.specs.Code.{Code, is_equation}
use Rattle.mr_model.specs.Plans.{Recipe, IsValidPlan}
use Rattle.mr_model.proofs.SetLaws.{has-true, has-false, true-has, bit_at_cases, bit_at_minus, within-true, true-within, Within-le, Within-minus, member-below}
use Rattle.mr_model.proofs.Finding.{FindsMember, find_member-finds, find_member-is, find_member-none}
use Rattle.mr_model.proofs.Loops.{has-same, members-none}
use Rattle.mr_plan.specs.declared.errors.Wrong.{Wrong}
use Rattle.mr_plan.specs.declared.errors.Why.TheVariants.{NotSurvivor, Missing, Stray, Spare}
use Rattle.mr_plan.specs.Plans.{PlanParts, survivors}
use Rattle.mr_plan.specs.Checks.{wrong, fault_or, survivor_fault, expected_fault, symbol_fault, recipe_fault, recipes_fault, is_needed, first_fault, sound_unless}
use Rattle.mr_plan.proofs.MemberLists.{members-All}

-- ---- what an answer says of the fault

pub fault-err : (fault : Option Wrong) (w : Wrong) → Err w ≡ sound_unless fault → fault ≡ Some w
fault-err None w e = cc
fault-err (Some v) w e = cc

pub fault-ok : (fault : Option Wrong) (u : Unit {0}) → Ok u ≡ sound_unless fault → fault ≡ None
fault-ok None u e = refl
fault-ok (Some v) u e = cc

-- a step of a loop: the fault in all is that of what is left, which is that of one item or else of the rest
module _ (all left here rest : Option Wrong) (same : all ≡ left) (turn : left ≡ fault_or here rest) where
  -- the item has a fault
  pub stops : (w : Wrong) → Err w ≡ sound_unless here → Err w ≡ sound_unless all
  stops w e = ap sound_unless (sym (same ∙ turn ∙ ap (λ o. fault_or o rest) (fault-err here w e)))

  -- the item has none
  pub goes : (u : Unit {0}) → Ok u ≡ sound_unless here → all ≡ rest
  goes u e = same ∙ turn ∙ ap (λ o. fault_or o rest) (fault-ok here u e)

-- ---- the least member of a set that is not among others

pub find-outside : (set others : ℕ) (o : Option ℕ) (y : ℕ) → NextMember (minus set others) o y → o ≡ find_member set (λ i. not (has others i))
find-outside set others None y h = sym (find_member-none set (λ i. not (has others i)) (λ i member.
    let bits = ap (λ v. bit_at v i) h.0 in
    not_from_true _ (has-true others i (omega (arith, bits, bit_at-zero i, bit_at_minus set others i, member, bit_at-lt others i)))))
find-outside set others (Some t) y h = sym (find_member-is set (λ i. not (has others i)) (Some t) (record {
  member = omega (arith, h.least.member, bit_at_minus set others t, bit_at-lt set t);
  passes = not_from_false _ (has-false others t (omega (arith, h.least.member, bit_at_minus set others t, bit_at-lt set t)));
  least = λ j lt member. not_from_true _ (has-true others j (omega (arith, h.least.below_it j lt, bit_at_minus set others j, member, bit_at-lt others j)));
}))

-- ---- the lost symbols and the symbols of the recipes

abbrev symbols_of : List Recipe → List ℕ
symbols_of rs = map (λ (r : Recipe). r.symbol) rs

-- the place at which one recipe stands against the next lost symbol
expected-first : (x : ℕ) (o : Option ℕ) (y s : ℕ) (ss : List ℕ) → NextMember x o y → symbol_fault (members x) (s ∷ ss) ≡ fault_or (expected_fault o s) (symbol_fault (members y) ss)
unfolding symbol_fault
expected-first x None y s ss h = ap (λ ts. symbol_fault ts (s ∷ ss)) (ap members h.0 ∙ members-none)
expected-first x (Some t) y s ss h = ap (λ ts. symbol_fault ts (s ∷ ss)) h.first

-- the recipes from k on begin with the one at k
recipes-from : (rs : List Recipe) (k : ℕ) (r : Recipe) → k < length rs → r ≡ get_or rs k r → drop k rs ≡ r ∷ drop (k + 1) rs
recipes-from rs k r low here = drop-cons rs k r low ∙ ap₂ (λ q n. q ∷ drop n rs) (sym here) (sym (add-one k))

pub expected-turn : (x : ℕ) (o : Option ℕ) (y : ℕ) (rs : List Recipe) (k : ℕ) (r : Recipe) → NextMember x o y → k < length rs → r ≡ get_or rs k r
    → symbol_fault (members x) (symbols_of (drop k rs)) ≡ fault_or (expected_fault o r.symbol) (symbol_fault (members y) (symbols_of (drop (k + 1) rs)))
expected-turn x o y rs k r next low here =
    ap (λ qs. symbol_fault (members x) (symbols_of qs)) (recipes-from rs k r low here)
    ∙ expected-first x o y r.symbol (symbols_of (drop (k + 1) rs)) next

pub expected-end : (x : ℕ) (o : Option ℕ) (y : ℕ) → NextMember x o y → symbol_fault (members x) [] ≡ option_map (wrong Missing) o
unfolding symbol_fault
expected-end x None y h = ap (λ ts. symbol_fault ts []) (ap members h.0 ∙ members-none)
expected-end x (Some t) y h = ap (λ ts. symbol_fault ts []) h.first

-- ---- recipe by recipe

pub recipes-turn : (m : Code) (set : ℕ) (rs : List Recipe) (k : ℕ) (r : Recipe) → k < length rs → r ≡ get_or rs k r
    → recipes_fault m set (drop k rs) ≡ fault_or (recipe_fault m set r) (recipes_fault m set (drop (k + 1) rs))
unfolding recipes_fault
recipes-turn m set rs k r low here = ap (recipes_fault m set) (recipes-from rs k r low here)

-- ---- the union of the recipes

has_or : (u s i : ℕ) → has (bit_or u s) i ≡ (has u i || has s i)
has_or u s i = ⊎_elim
    (λ member. has-true (bit_or u s) i (omega (arith, member, bit_at_or u s i, bit_at-lt s i)) ∙ ap (λ b. b || has s i) (sym (has-true u i member)))
    (λ out. has-same (bit_or u s) s i (omega (arith, out, bit_at_or u s i, bit_at-lt s i)) ∙ ap (λ b. b || has s i) (sym (has-false u i out)))
    (bit_at_cases u i)

pub needed-turn : (u s i k : ℕ) (rs : List Recipe) (r : Recipe) → k < length rs → r ≡ get_or rs k r → s ≡ r.equation
    → has u i ≡ is_needed (take k rs) i → has (bit_or u s) i ≡ is_needed (take (k + 1) rs) i
needed-turn u s i k rs r low here is before =
    has_or u s i ∙ ap₂ (λ a b. a || b) before (ap (λ e. has e i) (is ∙ ap (λ (q : Recipe). q.equation) here))
    ∙ sym (list_any_more (λ (q : Recipe). has q.equation i) rs k r low)

-- ---- no fault is the same as valid

pub both_none : (a b : Option Wrong) → fault_or a b ≡ None → (a ≡ None) × (b ≡ None)
both_none None b e = (refl, e)
both_none (Some w) b e = cc

none_both : (a b : Option Wrong) → a ≡ None → b ≡ None → fault_or a b ≡ None
none_both None b e h = h
none_both (Some w) b e h = cc

mapped_none : (f : ℕ → Wrong) (o : Option ℕ) → option_map f o ≡ None → o ≡ None
mapped_none f None e = refl
mapped_none f (Some i) e = cc

-- the search for a member that fails a test finds none where each member passes
all_pass : (set : ℕ) (p : ℕ → Bool) → find_member set (λ i. not (p i)) ≡ None → (i : ℕ) → bit_at set i ≡ 1 → p i ≡ true
all_pass set p e i member = not-false _ (go (find_member set (λ j. not (p j))) (find_member-finds set (λ j. not (p j))) e)
  where
    go : (o : Option ℕ) → FindsMember set (λ j. not (p j)) o → o ≡ None → not (p i) ≡ false
    go None h e = h i member
    go (Some j) h e = cc

none_fails : (set : ℕ) (p : ℕ → Bool) → ((i : ℕ) → bit_at set i ≡ 1 → p i ≡ true) → find_member set (λ i. not (p i)) ≡ None
none_fails set p h = find_member-none set (λ i. not (p i)) (λ i member. not_from_true _ (h i member))

-- every member survives
pub survivors-within : (m : Code) (lost set : ℕ) → survivor_fault m lost set ≡ None → within set (survivors m lost) ≡ true
survivors-within m lost set e = within-true set (survivors m lost) (λ i. ⊎_elim
    (λ member. omega (arith, member, true-has (survivors m lost) i (all_pass set (has (survivors m lost)) (mapped_none _ _ e) i member)))
    (λ out. omega (arith, out))
    (bit_at_cases set i))

within-survivors : (m : Code) (lost set : ℕ) → within set (survivors m lost) ≡ true → survivor_fault m lost set ≡ None
within-survivors m lost set e = ap (option_map (wrong NotSurvivor)) (none_fails set (has (survivors m lost)) (λ i member.
    has-true (survivors m lost) i (omega (arith, member, true-within set (survivors m lost) e i, bit_at-lt (survivors m lost) i))))

-- one recipe for each lost symbol
pub expected_none : (t s : ℕ) → expected_fault (Some t) s ≡ None → t ≡ s
expected_none t s e = eqb-true t s (true_from_ne_false (t == s) (λ apart. go (t == s) (nat_lt t s) apart e))
  where
    go : (b c : Bool) → b ≡ false → cond b None (cond c (Some (wrong Missing t)) (Some (wrong Stray s))) ≡ None → ⊥
    go true c h e = both_ways true h refl
    go false true h e = cc
    go false false h e = cc

pub symbols-same : (ts ss : List ℕ) → symbol_fault ts ss ≡ None → ss ≡ ts
unfolding symbol_fault
symbols-same [] [] e = refl
symbols-same (t ∷ ts) [] e = cc
symbols-same [] (s ∷ ss) e = cc
symbols-same (t ∷ ts) (s ∷ ss) e =
    let parts = both_none (expected_fault (Some t) s) (symbol_fault ts ss) e in
    ap₂ (λ x xs. x ∷ xs) (sym (expected_none t s parts.0)) (symbols-same ts ss parts.1)

same-symbols : (ts : List ℕ) → symbol_fault ts ts ≡ None
unfolding symbol_fault
same-symbols [] = refl
same-symbols (t ∷ ts) = none_both (expected_fault (Some t) t) (symbol_fault ts ts)
    (ap (λ b. cond b None (cond (nat_lt t t) (Some (wrong Missing t)) (Some (wrong Stray t)))) (eq-eqb t t refl)) (same-symbols ts)

-- each recipe within the set, and an equation
pub recipe_parts : (within_set sums : Bool) (w v : Wrong) → cond (not within_set) (Some w) (cond (not sums) (Some v) None) ≡ None → (within_set ≡ true) × (sums ≡ true)
recipe_parts true true w v e = (refl, refl)
recipe_parts true false w v e = cc
recipe_parts false b w v e = cc

recipe_whole : (within_set sums : Bool) (w v : Wrong) → within_set ≡ true → sums ≡ true → cond (not within_set) (Some w) (cond (not sums) (Some v) None) ≡ None
recipe_whole true true w v e h = refl
recipe_whole true false w v e h = absurd (both_ways false refl h)
recipe_whole false b w v e h = absurd (both_ways false refl e)

module _ (m : Code) (set : ℕ) where
  abbrev Inside : Recipe → Type 0
  Inside r = within r.equation set ≡ true

  abbrev Sums : Recipe → Type 0
  Sums r = is_equation m r.symbol r.equation ≡ true

  recipes-sound : (rs : List Recipe) → recipes_fault m set rs ≡ None → All Inside rs × All Sums rs
  unfolding recipes_fault
  recipes-sound [] e = (All-nil Inside, All-nil Sums)
  recipes-sound (r ∷ rs) e =
      let parts = both_none (recipe_fault m set r) (recipes_fault m set rs) e in
      let here = recipe_parts (within r.equation set) (is_equation m r.symbol r.equation) _ _ parts.0 in
      let rest = recipes-sound rs parts.1 in
      (All-cons Inside r rs here.0 rest.0, All-cons Sums r rs here.1 rest.1)

  sound-recipes : (rs : List Recipe) → All Inside rs → All Sums rs → recipes_fault m set rs ≡ None
  unfolding recipes_fault
  sound-recipes [] h k = refl
  sound-recipes (r ∷ rs) h k = none_both (recipe_fault m set r) (recipes_fault m set rs)
      (recipe_whole (within r.equation set) (is_equation m r.symbol r.equation) _ _ (All-head Inside r rs h) (All-head Sums r rs k))
      (sound-recipes rs (All-tail Inside r rs h) (All-tail Sums r rs k))

-- every member needed
pub any_bits : (i : ℕ) (rs : List Recipe) → is_needed rs i ≡ true → Any (λ r. bit_at r.equation i ≡ 1) rs
any_bits i rs e = let found = Any-from_list_any (λ (r : Recipe). has r.equation i) rs e in
    (found.0, found.1, found.2, found.3, true-has found.1.equation i found.4)

pub bits_any : (i : ℕ) (rs : List Recipe) → Any (λ r. bit_at r.equation i ≡ 1) rs → is_needed rs i ≡ true
bits_any i rs h = list_any-from_Any (λ (r : Recipe). has r.equation i) rs (h.0, h.1, h.2, h.3, has-true h.1.equation i h.4)

pub valid-sound : (m : Code) (lost : ℕ) (plan : PlanParts) → first_fault m lost plan ≡ None → IsValidPlan m (survivors m lost) lost plan.set plan.recipes
valid-sound m lost plan e =
    let first = both_none _ _ e in
    let second = both_none _ _ first.1 in
    let third = both_none _ _ second.1 in
    let sound = recipes-sound m plan.set plan.recipes third.0 in
    record {
      survivors = survivors-within m lost plan.set first.0;
      symbols = symbols-same (members lost) (symbols_of plan.recipes) second.0;
      inside = sound.0;
      equations = sound.1;
      needed = λ i member. any_bits i plan.recipes (all_pass plan.set (is_needed plan.recipes) (mapped_none _ _ third.1) i member);
    }

pub sound-valid : (m : Code) (lost : ℕ) (plan : PlanParts) → IsValidPlan m (survivors m lost) lost plan.set plan.recipes → first_fault m lost plan ≡ None
sound-valid m lost plan h =
    none_both _ _ (within-survivors m lost plan.set h.survivors)
    (none_both _ _ (subst (λ ss. symbol_fault (members lost) ss ≡ None) (sym h.symbols) (same-symbols (members lost)))
    (none_both _ _ (sound-recipes m plan.set plan.recipes h.inside h.equations)
    (ap (option_map (wrong Spare)) (none_fails plan.set (is_needed plan.recipes) (λ i member. bits_any i plan.recipes (h.needed i member))))))

sound_ok : (fault : Option Wrong) → IsOk (sound_unless fault) → fault ≡ None
sound_ok None h = refl
sound_ok (Some w) h = absurd (grind arith)

ok_sound : (fault : Option Wrong) → fault ≡ None → IsOk (sound_unless fault)
ok_sound fault e = subst (λ o. IsOk (sound_unless o)) (sym e) refl

-- the checker's answer is Ok exactly where the plan is valid
pub answer-valid : (m : Code) (lost : ℕ) (plan : PlanParts) (answer : Result (Unit {0}) Wrong) → answer ≡ sound_unless (first_fault m lost plan)
    → IsOk answer ↔ IsValidPlan m (survivors m lost) lost plan.set plan.recipes
answer-valid m lost plan answer e = subst (λ r. IsOk r ↔ IsValidPlan m (survivors m lost) lost plan.set plan.recipes) (sym e)
    ((λ ok. valid-sound m lost plan (sound_ok _ ok)), (λ valid. ok_sound _ (sound-valid m lost plan valid)))

All-unmap : (P : ℕ → Type 0) (rs : List Recipe) → All P (symbols_of rs) → All (λ r. P r.symbol) rs
All-unmap P [] h = All-nil (λ (r : Recipe). P r.symbol)
All-unmap P (r ∷ rs) h = All-cons (λ (q : Recipe). P q.symbol) r rs (All-head P r.symbol (symbols_of rs) h) (All-unmap P rs (All-tail P r.symbol (symbols_of rs) h))

-- each symbol of the recipes is a symbol of the code, where they are the lost symbols
pub symbols-below : (m : Code) (lost : ℕ) (rs : List Recipe) → lost < 2 ^ length m.rows → symbol_fault (members lost) (symbols_of rs) ≡ None → All (λ r. r.symbol < length m.rows) rs
symbols-below m lost rs low e = All-unmap (λ t. t < length m.rows) rs (subst (All (λ t. t < length m.rows)) (sym (symbols-same (members lost) (symbols_of rs) e))
    (members-All (λ t. t < length m.rows) lost (λ t member. member-below (length m.rows) lost t low member)))

-- ---- the ends of the loops

pub recipes-end : (m : Code) (set k : ℕ) (rs : List Recipe) → length rs ≤ k → recipes_fault m set rs ≡ recipes_fault m set (drop k rs) → Ok tt ≡ sound_unless (recipes_fault m set rs)
unfolding recipes_fault
recipes-end m set k rs le e = ap sound_unless (sym (e ∙ ap (recipes_fault m set) (drop_all k rs le)))

pub expected-last : (all : Option Wrong) (x : ℕ) (o : Option ℕ) (y k : ℕ) (rs : List Recipe) → length rs ≤ k → NextMember x o y
    → all ≡ symbol_fault (members x) (symbols_of (drop k rs)) → all ≡ option_map (wrong Missing) o
expected-last all x o y k rs le next e = e ∙ ap (λ qs. symbol_fault (members x) (symbols_of qs)) (drop_all k rs le) ∙ expected-end x o y next

-- a set of survivors is one of the code's symbols
pub set-below : (m : Code) (lost set : ℕ) → within set (survivors m lost) ≡ true → set < 2 ^ length m.rows
set-below m lost set e =
    let le : set ≤ survivors m lost = Within-le set (survivors m lost) (true-within set (survivors m lost) e) in
    let few : survivors m lost ≤ 2 ^ length m.rows - 1 = Within-le (survivors m lost) (2 ^ length m.rows - 1) (Within-minus (2 ^ length m.rows - 1) lost) in
    let some : 0 < 2 ^ length m.rows = pow_pos (length m.rows) in
    omega arith
