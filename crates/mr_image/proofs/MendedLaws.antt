-- Mended images and near replies are those of the codewords, where the survivors come from data.
use Rattle.std.proofs.Common.{◌≡◌, ℕ, zero, suc, ◌+◌, ◌<◌, ◌≤◌, ◌==◌, Bool, true, false, cond, ◌||◌, ⊎_elim, List, [], ◌∷◌, map, All, Option, Some, None, refl, sym, ap, subst, ◌∙◌, arith, zero-add, eqb-true, eq-eqb}
use Rattle.std.specs.Prelude.{nat_le}
use Rattle.std.specs.Int.{bit_at}
use Rattle.std.specs.List.{range_with_len, filter}
use Rattle.std.proofs.Math.Bool.{or-true}
use Rattle.std.proofs.lemmas.Bool.{cases_eq}
use Rattle.std.proofs.lemmas.Nat.Bits.{bit_at-lt}
use Rattle.std.proofs.lemmas.List.FromFn.{get_or-map-range_with_len}
use Rattle.mr_model.specs.Sets.{has, within, count_subsets}
use Rattle.mr_model.specs.Members.{members}
use Rattle.mr_model.specs.Code.{Code, is_equation, has_equation, is_null, kept, kept_equation, cost}
use Rattle.mr_model.specs.Search.{cheapest_within}
use Rattle.mr_model.specs.Choice.{single}
use Rattle.mr_model.specs.Codewords.{codeword}
use Rattle.mr_model.specs.Plans.{Recipe}
use Rattle.mr_model.proofs.SetLaws.{Within-trans, within-true, true-within, has-true, member-below}
use Rattle.mr_model.proofs.BoundedLaws.{within-trans, any_subset-true, true-any_subset}
use Rattle.mr_model.proofs.Kept.{kept-within, kept_equation-within, is_equation-true, row_sum-kept_equation}
use Rattle.mr_model.proofs.CheapestLaws.{IsCost, cheapest_within-is}
use Rattle.mr_model.proofs.SearchSingle.{single-is}
use Rattle.mr_image.specs.Images.{Layout, stripe_symbols, Image, stripe_of, xor_symbols, equation_of, rebuilt, mended, near, singles_of, ComeFrom, AreValid}
use Rattle.mr_image.proofs.SymbolLaws.{xor_symbols-code}

-- ---- the recipes of the lost symbols

-- t stands in a list
stands : ℕ → List ℕ → Bool
stands t [] = false
stands t (y ∷ ys) = (y == t) || stands t ys

stands-range : (n a x t : ℕ) → a ≤ t → t < a + n → bit_at x t ≡ 1 → stands t (filter (has x) (range_with_len a n)) ≡ true
unfolding stands
stands-range zero a x t low high member = absurd (omega arith)
stands-range (suc n) a x t low high member = ⊎_elim
    (λ (e : a ≡ t).
    let test : has x a ≡ true = has-true x a (ap (bit_at x) e ∙ member) in
    (λ j. stands t (cond (test j) (a ∷ filter (has x) (range_with_len (a + 1) n)) (filter (has x) (range_with_len (a + 1) n))))
    ∙ ap (λ b. b || stands t (filter (has x) (range_with_len (a + 1) n))) (eq-eqb a t e))
    (λ (apart : a ≡ t → ⊥). behind (has x a) (stands-range n (a + 1) x t (omega arith) (omega arith) member))
    (cases_eq a t)
  where
    behind : (b : Bool) → stands t (filter (has x) (range_with_len (a + 1) n)) ≡ true
        → stands t (cond b (a ∷ filter (has x) (range_with_len (a + 1) n)) (filter (has x) (range_with_len (a + 1) n))) ≡ true
    behind true e = ap (λ v. (a == t) || v) e ∙ or-true (a == t)
    behind false e = e

stands-members : (x t : ℕ) → t < 128 → bit_at x t ≡ 1 → stands t (members x) ≡ true
unfolding members
stands-members x t low member = stands-range 128 0 x t (omega arith) (omega arith) member

-- a symbol that stands in the list of the recipes' symbols has an equation
equation_of-stands : (recipes : List Recipe) (t : ℕ) → stands t (map (λ r. r.symbol) recipes) ≡ true → equation_of recipes t ≡ None → ⊥
unfolding equation_of stands
equation_of-stands [] t e none = cc
equation_of-stands (r ∷ recipes) t e none = go (r.symbol == t) (equation_of-stands recipes t) e none
  where
    go : (b : Bool) → (stands t (map (λ r. r.symbol) recipes) ≡ true → equation_of recipes t ≡ None → ⊥)
        → (b || stands t (map (λ r. r.symbol) recipes)) ≡ true → cond b (Some r.equation) (equation_of recipes t) ≡ None → ⊥
    go true more e none = cc
    go false more e none = more e none

-- what is true of each recipe is true of the symbol and its equation
equation_of-each : (P : ℕ → ℕ → Type 0) (recipes : List Recipe) (t x : ℕ) → All (λ r. P r.symbol r.equation) recipes → equation_of recipes t ≡ Some x → P t x
unfolding equation_of
equation_of-each P [] t x all e = cc
equation_of-each P (r ∷ recipes) t x all e = go (r.symbol == t) refl (equation_of-each P recipes t x (λ k d low. all (suc k) d (omega (arith, low)))) e
  where
    go : (b : Bool) → (r.symbol == t) ≡ b → (equation_of recipes t ≡ Some x → P t x) → cond b (Some r.equation) (equation_of recipes t) ≡ Some x → P t x
    go true same more e =
        let equation : r.equation ≡ x = cc in
        subst (λ y. P t y) equation (subst (λ u. P u r.equation) (eqb-true r.symbol t same) (all 0 r (omega arith)))
    go false other more e = more e

-- ---- one symbol alone

module _ (m : Code) (a t budget : ℕ) (low : t < 128) (determined : has_equation m a t ≡ true) (priced : IsCost a (cost m)) where
  -- what is read for one symbol alone is an equation of it
  single-read : (within (single m a t budget) a ≡ true) × (is_equation m t (single m a t budget) ≡ true)
  single-read =
      let P : ℕ → Type 0 = λ x. (within x a ≡ true) × (is_equation m t x ≡ true) in
      subst P (sym (single-is m a t low determined priced budget)) (go (nat_le (count_subsets a (is_null m)) budget))
    where
      go : (b : Bool) → (within (cond b (cheapest_within a (cost m) (is_equation m t)) (kept_equation m a t)) a ≡ true)
          × (is_equation m t (cond b (cheapest_within a (cost m) (is_equation m t)) (kept_equation m a t)) ≡ true)
      go true =
          let some = true-any_subset a (is_equation m t) determined in
          let least = cheapest_within-is a (cost m) (is_equation m t) priced some.0 some.1 some.2 in
          (least.inside, least.passes)
      go false = (
        within-true (kept_equation m a t) a (Within-trans (kept_equation m a t) (kept m a) a (kept_equation-within m a t) (kept-within m a)),
        is_equation-true m t (kept_equation m a t) (row_sum-kept_equation m a t determined),
      )

-- ---- a stripe whose survivors come from data

module _ (l : Layout) (codes : ℕ → Code) (survivors lost sets : ℕ → ℕ) (recipes : ℕ → List Recipe) (image : Image) (columns : ℕ → List (List ℕ))
    (few : stripe_symbols l ≤ 128) (plans : AreValid l codes survivors lost sets recipes) (from : ComeFrom l codes survivors image columns)
    (s : ℕ) (here : s < l.stripes) where
  -- the XOR of the survivors at an equation of t is symbol t of the codeword
  equation-code : (x t : ℕ) → within x (survivors s) ≡ true → is_equation (codes s) t x ≡ true
      → xor_symbols l.symbol_bytes (stripe_of l image s) x ≡ codeword (codes s) l.symbol_bytes (columns s) t
  equation-code x t inside equation =
      xor_symbols-code (codes s) l.symbol_bytes (columns s) (stripe_of l image s) x t (λ i member.
      let survives : bit_at (survivors s) i ≡ 1 = omega (arith, member, true-within x (survivors s) inside i, bit_at-lt (survivors s) i) in
      let low : i < stripe_symbols l = member-below (stripe_symbols l) (survivors s) i (plans.covered s here).few_survivors survives in
      get_or-map-range_with_len (image s) 0 (stripe_symbols l) i i [] low (zero-add i) ∙ from.same s i here survives) equation

  -- the equation that a recipe names is one, of survivors
  recipe-read : (t x : ℕ) → equation_of (recipes s) t ≡ Some x → (within x (survivors s) ≡ true) × (is_equation (codes s) t x ≡ true)
  recipe-read t x e =
      let plan = plans.valid s here in (
        within-trans x (sets s) (survivors s) (equation_of-each (λ u y. within y (sets s) ≡ true) (recipes s) t x plan.inside e) plan.survivors,
        equation_of-each (λ u y. is_equation (codes s) u y ≡ true) (recipes s) t x plan.equations e,
      )

  -- a lost symbol has a recipe
  lost-recipe : (t : ℕ) → t < 128 → bit_at (lost s) t ≡ 1 → equation_of (recipes s) t ≡ None → ⊥
  lost-recipe t low member =
      equation_of-stands (recipes s) t (ap (stands t) (plans.valid s here).symbols ∙ stands-members (lost s) t low member)

  -- each mended symbol is that of the codeword
  pub mended-code : (i : ℕ) → i < stripe_symbols l → mended l recipes image s i ≡ codeword (codes s) l.symbol_bytes (columns s) i
  unfolding mended
  mended-code i low = go (equation_of (recipes s) i) refl
    where
      go : (o : Option ℕ) → equation_of (recipes s) i ≡ o → rebuilt l.symbol_bytes (stripe_of l image s) (image s i) o ≡ codeword (codes s) l.symbol_bytes (columns s) i
      go None e = ⊎_elim
          (λ (survives : bit_at (survivors s) i ≡ 1). from.same s i here survives)
          (λ (gone : bit_at (lost s) i ≡ 1). absurd (lost-recipe i (omega arith) gone e))
          ((plans.covered s here).each i low)
      go (Some x) e = let read = recipe-read i x e in equation-code x i read.0 read.1

  -- the near reply for a lost symbol is its symbol of the codeword
  pub near-code : (budget t : ℕ) → t < stripe_symbols l → bit_at (lost s) t ≡ 1 → IsCost (survivors s) (cost (codes s))
      → near l (singles_of codes survivors budget) image s t ≡ codeword (codes s) l.symbol_bytes (columns s) t
  unfolding near
  near-code budget t low member priced =
      let read = single-read (codes s) (survivors s) t budget (omega arith) (determined (equation_of (recipes s) t) refl) priced in
      equation-code (single (codes s) (survivors s) t budget) t read.0 read.1
    where
      determined : (o : Option ℕ) → equation_of (recipes s) t ≡ o → has_equation (codes s) (survivors s) t ≡ true
      determined None e = absurd (lost-recipe t (omega arith) member e)
      determined (Some x) e = let read = recipe-read t x e in any_subset-true (survivors s) (is_equation (codes s) t) x read.0 read.1
