-- The symbols of a stripe that cannot be read, and the image that is patched by each stripe's own plan.
use Rattle.std.specs.Prelude.{◌≡◌, ℕ, ◌+◌, ◌^◌, ◌<◌, ◌≤◌, ◌==◌, ◌⊎◌, true, List, map, fold, length, All, Contains, slice_index_or, bit_or, if◌then◌else◌}
use Rattle.std.specs.Int.{bit_at}
use Rattle.mr_model.specs.Sets.{has}
use Rattle.mr_model.specs.Code.{Code, is_determined, survivors}
use Rattle.mr_model.specs.Search.{chosen}
use Rattle.mr_model.specs.Choice.{choice_of}
use Rattle.mr_model.specs.Plans.{Recipe, recipe}
use Rattle.mr_model.specs.Members.{members}
use Rattle.mr_plan.specs.Plans.{recipe_in}
use Rattle.mr_image.specs.Images.{Layout, stripe_symbols, Image, stripe_of, xor_symbols, mended, code_image, ComeFrom}
use Rattle.mr_image.specs.Laws.{AreCodesOf}
use Rattle.mr_mend.specs.declared.asks.Ask.{Ask}

-- ---- which symbols fail

-- the set together with a sector's symbol, if it is of stripe s
abbrev pub with_sector : ℕ → ℕ → Ask → ℕ
with_sector s set sector = if sector.stripe == s then bit_or set (2 ^ sector.symbol) else set

-- the symbols of stripe s that are lost or named
unfoldable pub failed : ℕ → List Ask → ℕ → ℕ
failed lost sectors s = fold (with_sector s) lost sectors

-- A symbol fails in a stripe exactly where it is lost or named.
pub record IsPattern (lost : ℕ) (sectors : List Ask) : Type 0 where
  pub lost_fails : (s i : ℕ) → bit_at lost i ≡ 1 → bit_at (failed lost sectors s) i ≡ 1
  pub named_fails : (s i : ℕ) → Contains sectors (record { stripe = s; symbol = i })
      → bit_at (failed lost sectors s) i ≡ 1
  pub no_other : (s i : ℕ) → bit_at (failed lost sectors s) i ≡ 1
      → (bit_at lost i ≡ 1) ⊎ Contains sectors (record { stripe = s; symbol = i })

-- sectors whose stripes do not fall, none below s
pub record AreFrom (s : ℕ) (sectors : List Ask) : Type 0 where
  pub least : All (λ sector. s ≤ sector.stripe) sectors
  pub upwards : (k : ℕ) (d : Ask) → k + 1 < length sectors
      → (slice_index_or sectors k d).stripe ≤ (slice_index_or sectors (k + 1) d).stripe

-- ---- what is made of an image

-- the set that is read for the failed symbols of a stripe, within a budget
abbrev pub set_for : Code → ℕ → ℕ → ℕ
set_for m failures budget = chosen (choice_of m (survivors m failures) failures budget)

-- the recipes of the failed symbols, upwards, in the set that is read for them
abbrev pub recipes_for : Code → ℕ → ℕ → List Recipe
recipes_for m failures budget = map (recipe_in m (set_for m failures budget)) (members failures)

-- The patched image: each failed symbol is the XOR of the symbols of its recipe in the set that is
-- read for its stripe, and the others are as they were.
unfoldable pub patched : Layout → (ℕ → Code) → (ℕ → ℕ) → ℕ → Image → ℕ → ℕ → List ℕ
patched l codes failures budget image s i =
    if has (failures s) i
    then xor_symbols l.symbol_bytes (stripe_of l image s)
    (recipe (codes s) (set_for (codes s) (failures s) budget) i)
    else image s i

-- Whatever codes, failures and budget: the image that is mended by the recipes of each stripe is the
-- patched one.
pub record MendsPatched (l : Layout) : Type 0 where
  pub symbols : (codes : ℕ → Code) (failures : ℕ → ℕ) (budget : ℕ) (image : Image) (s i : ℕ)
      → failures s < 2 ^ 128
      → mended l (λ t. recipes_for (codes t) (failures t) budget) image s i
      ≡ patched l codes failures budget image s i

-- in each stripe the failed symbols are some of it, and the others determine them
pub record AreDetermined (l : Layout) (codes : ℕ → Code) (failures : ℕ → ℕ) : Type 0 where
  pub few : (s : ℕ) → s < l.stripes → failures s < 2 ^ stripe_symbols l
  pub determined : (s : ℕ) → s < l.stripes
      → is_determined (codes s) (survivors (codes s) (failures s)) (failures s) ≡ true

-- Whatever codes, failures, budget and data: where the failed symbols are determined and all others
-- come from the data, each symbol of the patched image is that of the codeword.
pub record PatchesCodewords (l : Layout) : Type 0 where
  pub symbols : (codes : ℕ → Code) (failures : ℕ → ℕ) (budget : ℕ) (image : Image)
      (columns : ℕ → List (List ℕ)) → AreCodesOf l codes → AreDetermined l codes failures
      → ComeFrom l codes (λ s. survivors (codes s) (failures s)) image columns
      → (s i : ℕ) → s < l.stripes → i < stripe_symbols l
      → patched l codes failures budget image s i ≡ code_image l codes columns s i
