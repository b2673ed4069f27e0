-- The bytes of one stripe, its symbols one after another: what the recipes of a plan make of them, and those of the
-- codeword of a payload. The stripes of an image as they are read.
use Rattle.std.specs.Prelude.{◌≡◌, ◌≢◌, ℕ, ◌+◌, ◌-◌, ◌*◌, ◌^◌, ◌<◌, ◌≤◌, List, [], ◌++◌, map, flat_map, length, take, drop, slice_index_or, All, Vec}
use Rattle.std.specs.Global.{Global}
use Rattle.std.specs.Int.{bit_at}
use Rattle.std.specs.List.{range_with_len}
use Rattle.mr_model.specs.Code.{Code}
use Rattle.mr_model.specs.Codewords.{codeword}
use Rattle.mr_model.specs.Plans.{Recipe}
use Rattle.mr_bits.specs.Matrices.{IsMatrixCode}
use Rattle.mr_image.specs.Images.{Layout, stripe_symbols, Image, equation_of, rebuilt, mended}
use Rattle.mr_image.specs.Rotated.{FitsCode}
use Rattle.mr_image.specs.declared.limits.TheConstants.{HEAD_BYTES}
use Rattle.mr_encode.specs.Data.{symbols_in}
pub use Rattle.mr_scrub.specs.Scans.{stripe_bytes}
use Rattle.mr_plan.specs.Plans.{PlanParts}
use Rattle.mr_plan.specs.PlanLists.{plan_at}
use Rattle.mr_mend.specs.Mending.{IsMendable}
use Rattle.mr_mend.specs.Rotations.{AreValidPlans}

-- ---- the symbols of a stripe

-- symbol i of these bytes, and all symbols
abbrev pub symbol_in : ℕ → List ℕ → ℕ → List ℕ
symbol_in size bytes i = take size (drop (i * size) bytes)

abbrev pub all_symbols : Layout → List ℕ → List (List ℕ)
all_symbols l bytes = symbols_in l.symbol_bytes (stripe_symbols l) bytes

-- these bytes with y as symbol i
abbrev pub with_symbol_at : ℕ → ℕ → List ℕ → List ℕ → List ℕ
with_symbol_at size i bytes y = take (i * size) bytes ++ (y ++ drop (i * size + size) bytes)

-- the bytes of stripe s of an image
abbrev pub stripe_body : Layout → Image → ℕ → List ℕ
stripe_body l image s = flat_map (image s) (range_with_len 0 (stripe_symbols l))

-- ---- what is made of them

-- symbol i of a stripe that has these bytes, once the recipes are carried out: the XOR of the symbols
-- that its recipe names, or, where it has none, the symbol as it was
unfoldable pub mended_symbol : Layout → List Recipe → List ℕ → ℕ → List ℕ
mended_symbol l recipes bytes i =
    rebuilt l.symbol_bytes (all_symbols l bytes) (symbol_in l.symbol_bytes bytes i)
    (equation_of recipes i)

-- the bytes of the stripe then
unfoldable pub mended_bytes : Layout → List Recipe → List ℕ → List ℕ
mended_bytes l recipes bytes =
    flat_map (mended_symbol l recipes bytes) (range_with_len 0 (stripe_symbols l))

-- the bytes of the codeword of a payload, which has a symbol of data for each column
unfoldable pub coded_bytes : Layout → Code → List ℕ → List ℕ
coded_bytes l m payload =
    flat_map (codeword m l.symbol_bytes (symbols_in l.symbol_bytes m.columns payload))
    (range_with_len 0 (stripe_symbols l))

-- a plan that may be carried out in the bytes of a stripe itself: no symbol that is read is rebuilt
pub record IsAmendable (l : Layout) (plan : PlanParts) : Type 0 where
  pub mendable : IsMendable l plan
  pub apart : All (λ r. bit_at plan.set r.symbol ≡ 0) plan.recipes

-- in each stripe the plan of that stripe may
pub record AreAmendable (l : Layout) (plans : List PlanParts) : Type 0 where
  pub each : (s : ℕ) → IsAmendable l (plan_at plans s)

-- Whatever code and loss: plans that are valid for the rotations in use may.
pub record AmendsValidPlans (l : Layout) : Type 0 where
  pub plans : (m : Code) (lost : ℕ) (plans : List PlanParts) → IsMatrixCode m → FitsCode l m
      → lost < 2 ^ stripe_symbols l → AreValidPlans l m lost plans → AreAmendable l plans

-- ---- symbols beside one that is changed

-- the bytes before symbol `own` of a stripe, and those behind it
pub record IsAround (size own : ℕ) (stripe front back : List ℕ) : Type 0 where
  pub low : front ≡ take (own * size) stripe
  pub high : back ≡ drop (own * size + size) stripe

-- symbol i is another one, and stands in these bytes around symbol `own`
pub record StandsAround (size own i : ℕ) (front back : List ℕ) : Type 0 where
  pub other : i ≢ own
  pub low : i < own → i * size + size ≤ length front
  pub high : own < i → (i - own - 1) * size + size ≤ length back

-- ---- the stripes of an image

-- the bytes of these
abbrev pub items_of : List (Vec ℕ Global) → List (List ℕ)
items_of stripes = map (λ v. v.items) stripes

-- the bytes of stripe s of a file
abbrev pub stripe_in : Layout → List ℕ → ℕ → List ℕ
stripe_in l file s = take (stripe_bytes l) (drop (HEAD_BYTES + s * stripe_bytes l) file)

-- in each of these stripes its recipes give the stripe of the mended image
pub record HoldsOpenings (l : Layout) (recipes : ℕ → List Recipe) (image : Image)
    (stripes : List (List ℕ)) : Type 0 where
  pub opened : (s : ℕ) → s < l.stripes
      → mended_bytes l (recipes s) (slice_index_or stripes s [])
      ≡ stripe_body l (mended l recipes image) s
