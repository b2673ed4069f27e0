-- Images: the bytes of each symbol in each stripe. What a plan makes of an image, and when its
-- survivors come from data.
use Rattle.std.specs.Prelude.{◌≡◌, ℕ, ◌+◌, ◌*◌, ◌%◌, ◌^◌, ◌<◌, ◌≤◌, ◌==◌, ◌⊎◌, List, [], ◌∷◌, map, flat_map, take, drop, slice_index, Option, Some, None, if◌then◌else◌}
use Rattle.std.specs.Int.{bit_at}
use Rattle.std.specs.List.{range_with_len}
use Rattle.mr_model.specs.Sets.{sum}
use Rattle.mr_model.specs.Code.{Code, most_symbols}
use Rattle.mr_model.specs.Codewords.{codeword}
use Rattle.mr_model.specs.Choice.{single}
use Rattle.mr_model.specs.Plans.{Recipe, IsValidPlan}
use Rattle.mr_image.specs.declared.limits.TheConstants.{HEAD_BYTES, IMAGE_LIMIT, SYMBOL_LIMIT}

-- ---- the form of an image, and where its symbols stand in a file

-- the version, 1 or 2, the devices, the symbols of each in a
-- stripe, the bytes of a symbol, and the stripes
pub record Layout : Type 0 where
  pub version : ℕ
  pub devices : ℕ
  pub symbols_per_device : ℕ
  pub symbol_bytes : ℕ
  pub stripes : ℕ

-- the symbols of a stripe
abbrev pub stripe_symbols : Layout → ℕ
stripe_symbols l = l.devices * l.symbols_per_device

-- the bytes of all symbols
abbrev pub body_bytes : Layout → ℕ
body_bytes l = l.stripes * stripe_symbols l * l.symbol_bytes

-- a layout within the limits of this program
pub record IsLayout (l : Layout) : Type 0 where
  pub first_version : 1 ≤ l.version
  pub last_version : l.version ≤ 2
  pub some_devices : 1 ≤ l.devices
  pub some_symbols : 1 ≤ l.symbols_per_device
  pub few_symbols : stripe_symbols l ≤ most_symbols
  pub some_bytes : 1 ≤ l.symbol_bytes
  pub whole_words : l.symbol_bytes % 8 ≡ 0
  pub few_bytes : l.symbol_bytes ≤ SYMBOL_LIMIT
  pub few_in_all : body_bytes l ≤ IMAGE_LIMIT

-- where symbol i of stripe s begins in a file, behind the head
abbrev pub place : Layout → ℕ → ℕ → ℕ
place l s i = HEAD_BYTES + (s * stripe_symbols l + i) * l.symbol_bytes

-- ---- images

-- the bytes of a symbol, by its stripe and its number
abbrev pub Image : Type 0
Image = ℕ → ℕ → List ℕ

-- the image that the bytes of a file hold
abbrev pub image_of : Layout → List ℕ → ℕ → ℕ → List ℕ
image_of l bytes s i = take l.symbol_bytes (drop (place l s i) bytes)

-- the symbols of stripe s
abbrev pub stripe_of : Layout → Image → ℕ → List (List ℕ)
stripe_of l image s = map (image s) (range_with_len 0 (stripe_symbols l))

-- the bytes of all symbols in order
abbrev pub image_body : Layout → Image → List ℕ
image_body l image =
    flat_map (λ s. flat_map (image s) (range_with_len 0 (stripe_symbols l)))
    (range_with_len 0 l.stripes)

-- ---- what is made of an image

-- the same code, or the same recipes, for every stripe
abbrev pub every_stripe : {X : Type 0} → X → ℕ → X
every_stripe x s = x

-- the XOR of the symbols at the members of x, at each place of
-- `size` bytes: of none it is zero bytes
unfoldable pub xor_symbols : ℕ → List (List ℕ) → ℕ → List ℕ
xor_symbols size symbols x =
    map (λ place. sum (map (λ bytes. slice_index bytes place) symbols) x) (range_with_len 0 size)

-- the equation that the first recipe of symbol t names
unfoldable pub equation_of : List Recipe → ℕ → Option ℕ
equation_of [] t = None
equation_of (recipe ∷ recipes) t =
    if recipe.symbol == t then Some recipe.equation else equation_of recipes t

-- a symbol with an equation is the XOR of the symbols there, and without one is as it was
abbrev pub rebuilt : ℕ → List (List ℕ) → List ℕ → Option ℕ → List ℕ
rebuilt size symbols symbol None = symbol
rebuilt size symbols symbol (Some equation) = xor_symbols size symbols equation

-- the mended image: the symbols that have a recipe in their stripe are
-- rebuilt, and the others are as they were
unfoldable pub mended : Layout → (ℕ → List Recipe) → Image → ℕ → ℕ → List ℕ
mended l recipes image s i =
    rebuilt l.symbol_bytes (stripe_of l image s) (image s i) (equation_of (recipes s) i)

-- the near reply for symbol t: the XOR of the symbols that are read for it alone
unfoldable pub near : Layout → (ℕ → ℕ → ℕ) → Image → ℕ → ℕ → List ℕ
near l singles image s t = xor_symbols l.symbol_bytes (stripe_of l image s) (singles s t)

-- the sets that are read for one symbol alone, with a budget
abbrev pub singles_of : (ℕ → Code) → (ℕ → ℕ) → ℕ → ℕ → ℕ → ℕ
singles_of codes survivors budget s t = single (codes s) (survivors s) t budget

-- ---- images that come from data

-- the image of the codewords of the data
abbrev pub code_image : Layout → (ℕ → Code) → (ℕ → List (List ℕ)) → ℕ → ℕ → List ℕ
code_image l codes columns s i = codeword (codes s) l.symbol_bytes (columns s) i

-- the survivors of each stripe are those of the codewords of the data
pub record ComeFrom (l : Layout) (codes : ℕ → Code) (survivors : ℕ → ℕ) (image : Image)
    (columns : ℕ → List (List ℕ)) : Type 0 where
  pub same : (s i : ℕ) → s < l.stripes → bit_at (survivors s) i ≡ 1
      → image s i ≡ code_image l codes columns s i

-- each symbol of a stripe survives or is lost, and no other survives
pub record Covers (l : Layout) (survivors lost : ℕ) : Type 0 where
  pub few_survivors : survivors < 2 ^ stripe_symbols l
  pub each : (i : ℕ) → i < stripe_symbols l → (bit_at survivors i ≡ 1) ⊎ (bit_at lost i ≡ 1)

-- in each stripe the recipes are a valid plan for the lost symbols
pub record AreValid (l : Layout) (codes : ℕ → Code) (survivors lost sets : ℕ → ℕ)
    (recipes : ℕ → List Recipe) : Type 0 where
  pub covered : (s : ℕ) → s < l.stripes → Covers l (survivors s) (lost s)
  pub valid : (s : ℕ) → s < l.stripes
      → IsValidPlan (codes s) (survivors s) (lost s) (sets s) (recipes s)
