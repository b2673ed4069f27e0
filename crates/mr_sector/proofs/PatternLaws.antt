-- The symbols that fail in a stripe, and what the patched image is where the others come from data.
use Rattle.std.proofs.Common.{◌≡◌, ℕ, ◌+◌, ◌^◌, ◌<◌, ◌≤◌, List, take, length, get_or, sym, ◌∙◌, arith, pow_mono}
use Rattle.std.proofs.lemmas.List.Sums.{fold_more}
use Rattle.mr_model.specs.Code.{Code, survivors}
use Rattle.mr_model.specs.Laws.{IsLean}
use Rattle.mr_model.proofs.CostLaws.{price_law}
use Rattle.mr_model.proofs.SearchSingle.{choice-lean}
use Rattle.mr_bits.proofs.MatrixLaws.{matrix-priced}
use Rattle.mr_plan.proofs.PlanLaws.{plan_of-valid}
use Rattle.mr_image.specs.Images.{Layout, IsLayout, stripe_symbols, AreValid}
use Rattle.mr_image.specs.Laws.{AreCodesOf}
use Rattle.mr_image.proofs.Codewords.{gives-codewords}
use Rattle.mr_mend.specs.declared.asks.Ask.{Ask}
use Rattle.mr_eq.proofs.SingleLaws.{survivors-below}
use Rattle.mr_mend.proofs.Planned.{survivors_cover}
use Rattle.mr_sector.specs.Patterns.{failed, with_sector, set_for, recipes_for, AreDetermined, PatchesCodewords}
use Rattle.mr_sector.proofs.PatchLaws.{mends-patched}

-- one sector more
pub failed-more : (lost s k : ℕ) (sectors : List Ask) (d : Ask) → k < length sectors
    → failed lost (take (k + 1) sectors) s ≡ with_sector s (failed lost (take k sectors) s) (get_or sectors k d)
unfolding failed
failed-more lost s k sectors d low = fold_more (with_sector s) lost sectors k d low

-- ---- the plan of each stripe is valid

module _ (l : Layout) (may : IsLayout l) (codes : ℕ → Code) (failures : ℕ → ℕ) (budget : ℕ)
    (are : AreCodesOf l codes) (known : AreDetermined l codes failures) where
  few : (s : ℕ) → s < l.stripes → failures s < 2 ^ 128
  few s here =
      let low = known.few s here in
      let most : 2 ^ stripe_symbols l ≤ 2 ^ 128 = pow_mono may.few_symbols in
      omega (arith, low, most)

  lean : (s : ℕ) → s < l.stripes → IsLean (codes s) (survivors (codes s) (failures s)) (failures s) (set_for (codes s) (failures s) budget)
  lean s here = choice-lean (codes s) (survivors (codes s) (failures s)) (failures s) budget (few s here) (known.determined s here)
      (price_law (codes s) (survivors (codes s) (failures s)) (matrix-priced (codes s) (are.matrix s here)) (survivors-below (codes s) (failures s)))

  valid : AreValid l codes (λ s. survivors (codes s) (failures s)) failures (λ s. set_for (codes s) (failures s) budget) (λ s. recipes_for (codes s) (failures s) budget)
  valid = record {
    covered = λ s here. survivors_cover l (codes s) (failures s) (are.matrix s here)
        (record { devices = sym (are.same_devices s here); symbols = sym (are.same_symbols s here) });
    valid = λ s here. plan_of-valid (codes s) (survivors (codes s) (failures s)) (failures s) (set_for (codes s) (failures s) budget) (lean s here) (few s here);
  }

pub patches-codewords : (l : Layout) → IsLayout l → PatchesCodewords l
patches-codewords l may = record {
  symbols = λ codes failures budget image columns are known from s i here low.
      sym ((mends-patched l).symbols codes failures budget image s i (few l may codes failures budget are known s here))
      ∙ (gives-codewords l may).symbols codes (λ t. survivors (codes t) (failures t)) failures (λ t. set_for (codes t) (failures t) budget)
      (λ t. recipes_for (codes t) (failures t) budget) image columns (valid l may codes failures budget are known) from s i here low;
}
