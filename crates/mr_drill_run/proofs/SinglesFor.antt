-- The single equations that are chosen for all rotations are those of the lost symbols, and lawful replies are the symbols
-- of the codewords that the survivors come from.
use Rattle.std.proofs.Common.{arith, ◌≡◌, inl, inr, ◌%◌, ◌*◌, ◌-◌, ◌<◌, ◌^◌, ℕ, true, List, ap, get_or, length, sym, ◌∙◌, subst}
use Rattle.std.specs.Int.{bit_at}
use Rattle.std.proofs.lemmas.Nat.{mod_below}
use Rattle.std.proofs.lemmas.Nat.Bits.{bit_at-lt}
use Rattle.std.proofs.lemmas.List.FromFn.{get_or-map-range_with_len, length-map-range_with_len}
use Rattle.mr_bits.specs.Matrices.{IsMatrixCode}
use Rattle.mr_choices.specs.Chosen.{singles_chosen}
use Rattle.mr_choices.proofs.AtLaws.{survivors-same}
use Rattle.mr_choices.proofs.ChosenLaws.{rotation-code}
use Rattle.mr_eq.specs.Singles.{SinglesOf}
use Rattle.mr_image.specs.Images.{Image, Layout, IsLayout, code_image, every_stripe, mended, near, singles_of, stripe_of, stripe_symbols, xor_symbols}
use Rattle.mr_image.specs.Rotated.{FitsCode, codes_by, rotations}
use Rattle.mr_image.proofs.RotatedLaws.{codes-at, rotations-some}
use Rattle.mr_mend.specs.Mending.{AreMendable, copied_set, has_recipe}
use Rattle.mr_mend.specs.Rotations.{AreValidPlans, SurvivorsFrom}
use Rattle.mr_mend.specs.Scripts.{IsInRange}
use Rattle.mr_mend.specs.declared.asks.Ask.{Ask}
use Rattle.mr_mend.proofs.CopySets.{copied-other, copied-survivors}
use Rattle.mr_mend.proofs.Planned.{gives-rotated, planned-mendable, planned-symbols, survivors_cover}
use Rattle.mr_mend.proofs.Turns.{has_recipe-stands}
use Rattle.mr_model.specs.Choice.{single}
use Rattle.mr_model.specs.Code.{Code}
use Rattle.mr_model.specs.Plans.{Recipe}
use Rattle.mr_model.specs.Rotations.{rotated}
use Rattle.mr_model.proofs.RotationLaws.{count-rotated}
use Rattle.mr_model.proofs.SetLaws.{bit_at_minus}
use Rattle.mr_plan.specs.PlanLists.{recipes_at}
use Rattle.mr_plan.specs.Plans.{PlanParts, survivors}
use Rattle.mr_plan.proofs.PlanListLaws.{symbols-at}
use Rattle.mr_ready.specs.Lawful.{AreSinglesFor, IsLawful, no_singles, single_sets, singles_at}
use Rattle.mr_ready.specs.Orders.{OrderParts}

module _ (l : Layout) (m : Code) (lost budget : ℕ) where
  abbrev all : List SinglesOf
  all = singles_chosen m lost budget (rotations l)

  count : length all ≡ rotations l
  count = length-map-range_with_len (λ r. record { code = rotated m r; lost = lost; budget = budget }) 0 (rotations l)

  -- those of a stripe are those of its rotation
  at-rotation : (s : ℕ) → singles_at all s ≡ record { code = rotated m (s % rotations l); lost = lost; budget = budget }
  at-rotation s =
      ap (λ n. get_or all (s % n) no_singles) count
      ∙ get_or-map-range_with_len (λ r. record { code = rotated m r; lost = lost; budget = budget }) 0 (rotations l) (s % rotations l) (s % rotations l) no_singles
      (mod_below s (rotations l) (rotations-some l)) (omega arith)

  -- and so they are for the code of the stripe
  singles-of_stripe : IsMatrixCode m → FitsCode l m → (s t : ℕ) → s < l.stripes
      → single_sets all s t ≡ singles_of (codes_by l m) (every_stripe (survivors m lost)) budget s t
  singles-of_stripe is fits s t here =
      let r : ℕ = s % rotations l in
      let code : rotated m r ≡ codes_by l m s =
      sym (rotation-code l m r is fits (mod_below s (rotations l) (rotations-some l)))
      ∙ sym (codes-at l m s (omega (arith, fits.devices, is.shape.some_devices)) fits.devices here) in
      ap (λ (x : SinglesOf). single x.code (survivors x.code x.lost) t x.budget) (at-rotation s)
      ∙ ap (λ a. single (rotated m r) a t budget) (survivors-same m lost r)
      ∙ ap (λ (k : Code). single k (survivors m lost) t budget) code

-- a symbol is read by the same equation where its set is the same
near-same : (l : Layout) (f g : ℕ → ℕ → ℕ) (image : Image) (s t : ℕ) → f s t ≡ g s t → near l f image s t ≡ near l g image s t
unfolding near
near-same l f g image s t e = ap (xor_symbols l.symbol_bytes (stripe_of l image s)) e

module _ (l : Layout) (m : Code) (lost : ℕ) (plans : List PlanParts) (is : IsMatrixCode m) (fits : FitsCode l m)
    (below : lost < 2 ^ length m.rows) (are : AreValidPlans l m lost plans) where
  rows : length m.rows ≡ stripe_symbols l
  rows = is.count ∙ sym (λ j. fits.devices j * fits.symbols j)

  pub mendable : AreMendable l plans
  mendable = planned-mendable l m lost plans is fits are (subst (λ n. lost < 2 ^ n) rows below)

  copied : (s : ℕ) → copied_set l (recipes_at plans s) ≡ survivors m lost
  copied s =
      copied-survivors l (survivors m lost) lost (recipes_at plans s) (omega (arith, is.shape.few_symbols, rows, is.count)) (survivors_cover l m lost is fits)
      (λ i survives. omega (arith, survives, bit_at_minus (2 ^ length m.rows - 1) lost i, bit_at-lt (2 ^ length m.rows - 1) i, bit_at-lt lost i))
      (symbols-at plans s 0 (planned-symbols l m lost plans is fits are) ∙ (are.valid 0 (omega (arith, rotations-some l))).symbols)

  symbol-low : (s i : ℕ) → has_recipe (recipes_at plans s) i ≡ true → i < stripe_symbols l
  unfolding recipes_at
  symbol-low s i holds =
      let at = has_recipe-stands (recipes_at plans s) i holds in
      let d : Recipe = record { symbol = 0; equation = 0 } in
      subst (λ k. k < stripe_symbols l) (at.is d) ((mendable.each s).symbols at.index d at.low)

  -- a symbol with a recipe is lost
  recipe-lost : (s i : ℕ) → has_recipe (recipes_at plans s) i ≡ true → bit_at lost i ≡ 1
  recipe-lost s i holds =
      let low : i < stripe_symbols l = symbol-low s i holds in
      let none : bit_at (survivors m lost) i ≡ 0 =
      ap (λ x. bit_at x i) (sym (copied s)) ∙ copied-other l (recipes_at plans s) i low holds in
      elim ((survivors_cover l m lost is fits).each i low) [
        | inl survives ↦ absurd (omega (arith, none, survives))
        | inr gone ↦ gone
      ]

  -- so the chosen single equations are for the lost symbols
  pub singles-for : (budget : ℕ) → AreSinglesFor l plans (singles_chosen m lost budget (rotations l))
  singles-for budget = record {
    some = omega (arith, count l m lost budget, rotations-some l);
    shape = λ s. ap (λ (x : SinglesOf). length x.code.rows) (at-rotation l m lost budget s) ∙ count-rotated m (s % rotations l) ∙ rows;
    lost = λ s i holds. ap (λ (x : SinglesOf). bit_at x.lost i) (at-rotation l m lost budget s) ∙ recipe-lost s i holds;
  }

  -- where the survivors come from data, a lawful reply is the symbol of the codewords
  pub reply-own : (order : OrderParts) (image : Image) (budget : ℕ) (columns : ℕ → List (List ℕ)) (ask : Ask) (bytes : List ℕ) → IsLayout l → order.head ≡ l
      → order.plans ≡ plans → order.singles ≡ singles_chosen m lost budget (rotations l) → SurvivorsFrom l m lost image columns → IsInRange l ask
      → IsLawful order image ask bytes → bytes ≡ code_image l (codes_by l m) columns ask.stripe ask.symbol
  reply-own order image budget columns ask bytes limits head_is plans_are singles_are from here lawful = elim lawful [
    | inl same ↦
        same ∙ (λ j. mended (head_is j) (recipes_at (plans_are j)) image ask.stripe ask.symbol)
        ∙ (gives-rotated l limits).symbols m lost plans image columns is fits are from ask.stripe ask.symbol here.stripe here.symbol
    | inr (live, gone, same) ↦
        same ∙ (λ j. near (head_is j) (single_sets (singles_are j)) image ask.stripe ask.symbol)
        ∙ near-same l (single_sets (singles_chosen m lost budget (rotations l))) (singles_of (codes_by l m) (every_stripe (survivors m lost)) budget) image
        ask.stripe ask.symbol (singles-of_stripe l m lost budget is fits ask.stripe ask.symbol here.stripe)
        ∙ (gives-rotated l limits).replies m lost plans image columns is fits are from budget ask.stripe ask.symbol here.stripe here.symbol
        (recipe-lost ask.stripe ask.symbol (ap (λ ps. has_recipe (recipes_at ps ask.stripe) ask.symbol) (sym plans_are) ∙ gone))
  ]
