-- What plans must be to mend an image, and the bytes of the rebuilt symbols.
use Rattle.std.specs.Prelude.{◌≡◌, ℕ, ◌*◌, ◌^◌, ◌<◌, ◌≤◌, ◌≢◌, ◌⊎◌, Bool, true, false, not, List, map, take, drop, length, slice_index, slice_index_or, All, is_some, if◌then◌else◌}
use Rattle.std.specs.Int.{bit_at}
use Rattle.mr_model.specs.Sets.{has, within, set_below}
use Rattle.mr_model.specs.Members.{members}
use Rattle.mr_model.specs.Plans.{Recipe}
use Rattle.mr_model.specs.Search.{sum_below}
use Rattle.mr_kern.specs.Xor.{xor_bytes}
use Rattle.mr_image.specs.Images.{Layout, stripe_symbols, Image, image_of, equation_of, mended}
use Rattle.mr_image.specs.Heads.{image_bytes}
use Rattle.mr_image.specs.declared.limits.TheConstants.{HEAD_BYTES}
use Rattle.mr_plan.specs.Plans.{PlanParts}
use Rattle.mr_plan.specs.PlanLists.{plan_at}

-- ---- what is asked

-- strictly upwards
abbrev pub IsUpwards : List ℕ → Type 0
IsUpwards xs = (j k : ℕ) → j < k → k < length xs → slice_index xs j < slice_index xs k

-- a plan that may be carried out on images of the layout: all that it names is in range, each recipe is within the set
-- that is read, and the recipes stand upwards
pub record IsMendable (l : Layout) (plan : PlanParts) : Type 0 where
  pub few : length plan.recipes ≤ 128
  pub in_range : plan.set < 2 ^ stripe_symbols l
  pub symbols : All (λ r. r.symbol < stripe_symbols l) plan.recipes
  pub inside : All (λ r. within r.equation plan.set ≡ true) plan.recipes
  pub upwards : IsUpwards (map (λ r. r.symbol) plan.recipes)

-- in each stripe the plan of that stripe may be carried out
pub record AreMendable (l : Layout) (plans : List PlanParts) : Type 0 where
  pub each : (s : ℕ) → IsMendable l (plan_at plans s)

-- ---- what is made

-- the bytes of a slot after symbol i was XORed into it, if the recipe has that symbol
abbrev pub with_symbol : ℕ → List ℕ → Recipe → List ℕ → List ℕ
with_symbol i symbol r held = if has r.equation i then xor_bytes held symbol else held

-- ---- what stands in the bytes of a file

-- some recipe is one of this symbol
abbrev pub has_recipe : List Recipe → ℕ → Bool
has_recipe recipes i = is_some (equation_of recipes i)

-- each symbol with a recipe in its stripe stands there as the mended image has it
pub record HoldsMended (l : Layout) (recipes : ℕ → List Recipe) (image : Image) (bytes : List ℕ)
    : Type 0 where
  pub same : (s i : ℕ) → s < l.stripes → i < stripe_symbols l → has_recipe (recipes s) i ≡ true
      → image_of l bytes s i ≡ mended l recipes image s i

-- after these symbols were put into stripe s, that of each recipe to its place, the other stripes and the head are as before
pub record PutsSymbols (l : Layout) (recipes : List Recipe) (s : ℕ) (symbols before now : List ℕ)
    : Type 0 where
  pub there : (k : ℕ) (d : Recipe) → k < length recipes
      → image_of l now s (slice_index_or recipes k d).symbol
      ≡ take l.symbol_bytes (drop (k * l.symbol_bytes) symbols)
  pub others : (t i : ℕ) → t ≢ s → i < stripe_symbols l → image_of l now t i ≡ image_of l before t i
  pub front : take HEAD_BYTES now ≡ take HEAD_BYTES before

-- ---- the symbols that are copied

-- the symbols of a stripe that no recipe rebuilds
unfoldable pub copied_set : Layout → List Recipe → ℕ
copied_set l recipes = set_below (stripe_symbols l) (λ i. not (has_recipe recipes i))

-- each symbol without a recipe in its stripe stands there as the image has it
pub record HoldsCopies (l : Layout) (recipes : ℕ → List Recipe) (image : Image) (bytes : List ℕ)
    : Type 0 where
  pub same : (s i : ℕ) → s < l.stripes → i < stripe_symbols l → has_recipe (recipes s) i ≡ false
      → image_of l bytes s i ≡ image s i

-- the head, and each symbol with a recipe in its stripe, stand there as before
pub record KeepsMended (l : Layout) (recipes : ℕ → List Recipe) (before now : List ℕ) : Type 0 where
  pub same : (s i : ℕ) → s < l.stripes → i < stripe_symbols l → has_recipe (recipes s) i ≡ true
      → image_of l now s i ≡ image_of l before s i
  pub front : take HEAD_BYTES now ≡ take HEAD_BYTES before

-- in stripe s the symbols of the set stand as the image has them
pub record HoldsSymbols (l : Layout) (set s : ℕ) (image : Image) (bytes : List ℕ) : Type 0 where
  pub same : (i : ℕ) → bit_at set i ≡ 1 → image_of l bytes s i ≡ image s i

-- the head, the other stripes, and in stripe s the symbols outside of the set stand as before
pub record KeepsOthers (l : Layout) (set s : ℕ) (before now : List ℕ) : Type 0 where
  pub same : (t i : ℕ) → i < stripe_symbols l → (t ≡ s → bit_at set i ≡ 0)
      → image_of l now t i ≡ image_of l before t i
  pub front : take HEAD_BYTES now ≡ take HEAD_BYTES before

-- ---- a run of neighbours

-- the numbers from first up to the end, which is not one of them, are members, and the end is none
pub record IsRunEnd (set first «end» : ℕ) : Type 0 where
  pub some : first < «end»
  pub members : (i : ℕ) → first ≤ i → i < «end» → bit_at set i ≡ 1
  pub whole : bit_at set «end» ≡ 0

-- in stripe s the symbols from first up to the end stand as the image has them
pub record HoldsRun (l : Layout) (s first «end» : ℕ) (image : Image) (bytes : List ℕ) : Type 0 where
  pub same : (i : ℕ) → first ≤ i → i < «end» → image_of l bytes s i ≡ image s i

-- the head, the other stripes, and in stripe s the symbols before first or from the end on stand as before
pub record KeepsBesides (l : Layout) (s first «end» : ℕ) (before now : List ℕ) : Type 0 where
  pub same : (t i : ℕ) → i < stripe_symbols l → (t ≡ s → (i < first) ⊎ («end» ≤ i))
      → image_of l now t i ≡ image_of l before t i
  pub front : take HEAD_BYTES now ≡ take HEAD_BYTES before

-- ---- a whole rebuild

-- the file in which each symbol with a recipe is rebuilt, and the others are as they were
abbrev pub mended_file : Layout → (ℕ → List Recipe) → List ℕ → List ℕ
mended_file l recipes bytes = image_bytes l (mended l recipes (image_of l bytes))

-- the members of the sets of the first n stripes, counted in each stripe
abbrev pub members_read : List PlanParts → ℕ → ℕ
members_read plans n = sum_below n (λ s. length (members (plan_at plans s).set))
