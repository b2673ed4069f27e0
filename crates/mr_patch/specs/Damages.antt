-- What fails in each stripe of an image, the pattern of it, what is read for it, and the file that is patched.
use Rattle.std.specs.Prelude.{ℕ, ◌%◌, ◌^◌, ◌<◌, ◌==◌, List, length, if◌then◌else◌}
use Rattle.mr_model.specs.Code.{Code, survivors}
use Rattle.mr_model.specs.Members.{members}
use Rattle.mr_model.specs.Plans.{Recipe}
use Rattle.mr_model.specs.Search.{sum_below}
use Rattle.mr_image.specs.Images.{Layout, stripe_symbols, Image, image_of, code_image, ComeFrom}
use Rattle.mr_image.specs.Heads.{image_bytes}
use Rattle.mr_image.specs.Rotated.{FitsCode, codes_by}
use Rattle.mr_mend.specs.declared.asks.Ask.{Ask}
use Rattle.mr_cache.specs.declared.patterns.Pattern.{Pattern}
use Rattle.mr_sector.specs.Patterns.{failed, set_for, recipes_for, patched, AreDetermined}
use Rattle.mr_sector.specs.Sectors.{AreSectors}
use Rattle.mr_patch.specs.declared.damage.Damage.{Damage}

-- The layout of an image, its code, the symbols of the lost devices, and the sectors that cannot be read besides.
pub record DamageParts : Type 0 where
  pub layout : Layout
  pub code : Code
  pub lost : ℕ
  pub sectors : List Ask

abbrev pub parts_of : Damage → DamageParts
parts_of d =
    record { layout = d.head.now; code = d.matrix.now; lost = d.lost; sectors = d.sectors.now }

-- The sectors are those of an image of the code, and the lost symbols are some of a stripe.
pub record IsDamage (d : DamageParts) : Type 0 where
  pub fits : FitsCode d.layout d.code
  pub few : d.lost < 2 ^ stripe_symbols d.layout
  pub sectors : AreSectors d.layout d.lost d.sectors

-- ---- each stripe

-- its code
abbrev pub code_at : DamageParts → ℕ → Code
code_at d s = codes_by d.layout d.code s

-- its symbols that fail
abbrev pub failed_at : DamageParts → ℕ → ℕ
failed_at d s = failed d.lost d.sectors s

-- and the others
abbrev pub others_at : DamageParts → ℕ → ℕ
others_at d s = survivors (code_at d s) (failed_at d s)

-- by how many devices its code has moved on
abbrev pub rotation_at : DamageParts → ℕ → ℕ
rotation_at d s = if d.layout.version == 2 then s % d.layout.devices else 0

-- its pattern
abbrev pub pattern_at : DamageParts → ℕ → Pattern
pattern_at d s = record { rotation = rotation_at d s; lost = failed_at d s }

-- the set that is read for the symbols that fail, within a budget
abbrev pub set_at : DamageParts → ℕ → ℕ → ℕ
set_at d budget s = set_for (code_at d s) (failed_at d s) budget

-- their recipes in it
abbrev pub recipes_at : DamageParts → ℕ → ℕ → List Recipe
recipes_at d budget s = recipes_for (code_at d s) (failed_at d s) budget

-- ---- all stripes

-- in each stripe the others determine the symbols that fail
abbrev pub IsDetermined : DamageParts → Type 0
IsDetermined d = AreDetermined d.layout (code_at d) (failed_at d)

-- the patched image
abbrev pub patched_image : DamageParts → ℕ → Image → Image
patched_image d budget image = patched d.layout (code_at d) (failed_at d) budget image

-- its file
abbrev pub patched_file : DamageParts → ℕ → List ℕ → List ℕ
patched_file d budget bytes =
    image_bytes d.layout (patched_image d budget (image_of d.layout bytes))

-- the members of the sets that are read in the first n stripes, counted in each stripe
abbrev pub set_reads : DamageParts → ℕ → ℕ → ℕ
set_reads d budget n = sum_below n (λ s. length (members (set_at d budget s)))

-- the symbols of the first n stripes that do not fail
abbrev pub copy_reads : DamageParts → ℕ → ℕ
copy_reads d n = sum_below n (λ s. length (members (others_at d s)))

-- ---- data

-- the symbols of the image that do not fail are those of the codewords of the data
abbrev pub OthersFrom : DamageParts → Image → (ℕ → List (List ℕ)) → Type 0
OthersFrom d image columns = ComeFrom d.layout (code_at d) (others_at d) image columns

-- the file of the codewords of the data
abbrev pub code_file : DamageParts → (ℕ → List (List ℕ)) → List ℕ
code_file d columns = image_bytes d.layout (code_image d.layout (code_at d) columns)
