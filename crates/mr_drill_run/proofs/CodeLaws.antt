-- The code of drills: its form, and that each device is determined by the others.
use Rattle.std.proofs.Common.{arith, ◌≡◌, ◌∙◌, ◌*◌, ◌+◌, ◌-◌, ◌/◌, ◌<◌, ◌≤◌, ◌^◌, ℕ, zero, suc, lit<, Ok, Bool, true, false, ◌&&◌, ◌||◌, not, List, [], ◌∷◌, length, get_or, replicate, refl, sym, ap, subst, ⊎_elim, inl, inr}
use Rattle.std.specs.Int.{bit_at}
use Rattle.std.proofs.lemmas.Bool.{cases_lt}
use Rattle.std.proofs.lemmas.Nat.Bits.{bit_at_above}
use Rattle.mr_form.specs.Layouts.{cells, data_rows, rdp_rows, with_parity}
use Rattle.mr_image.specs.Heads.{checked_layout, layout}
use Rattle.mr_image.specs.Images.{stripe_symbols}
use Rattle.mr_image.specs.Rotated.{FitsCode}
use Rattle.mr_model.specs.Code.{Code, device_symbols, dimensions, has_equation, is_equation, survivors}
use Rattle.mr_model.specs.Search.{all_below}
use Rattle.mr_model.specs.Sets.{has, minus, set_below, sum, within}
use Rattle.mr_model.proofs.SetLaws.{has-true}
use Rattle.mr_model.proofs.BoundedLaws.{any_subset-true, true-all_below}
use Rattle.mr_drill_run.specs.Drills.{drill_code, drill_layout}

-- ---- the rows

abbrev drill_rows : List ℕ
drill_rows = 1 ∷ 2 ∷ 4 ∷ 8 ∷ 16 ∷ 32 ∷ 64 ∷ 128 ∷ 256 ∷ 512 ∷ 1024 ∷ 2048 ∷ 4096 ∷ 8192 ∷ 16384 ∷ 32768 ∷ 4369 ∷ 8738 ∷ 17476 ∷ 34952 ∷ 27171 ∷ 50262 ∷ 35244 ∷ 4680 ∷ []

rows-are : rdp_rows 5 ≡ drill_rows
unfolding rdp_rows with_parity data_rows cells set_below sum
rows-are = refl

abbrev pub literal : Code
literal = record { devices = 6; symbols_per_device = 4; columns = 16; rows = drill_rows; prices = 1 ∷ 1 ∷ 1 ∷ 1 ∷ 1 ∷ 1 ∷ [] }

pub code-is : drill_code ≡ literal
unfolding drill_code
code-is = λ j. record { devices = 6; symbols_per_device = 4; columns = 16; rows = rows-are j; prices = 1 ∷ 1 ∷ 1 ∷ 1 ∷ 1 ∷ 1 ∷ [] }

pub drill-devices : drill_code.devices ≡ 6
drill-devices = ap (λ (m : Code). m.devices) code-is

pub drill-per_device : drill_code.symbols_per_device ≡ 4
drill-per_device = ap (λ (m : Code). m.symbols_per_device) code-is

pub drill-columns : drill_code.columns ≡ 16
drill-columns = ap (λ (m : Code). m.columns) code-is

pub drill-count : length drill_code.rows ≡ 24
drill-count = ap (λ (m : Code). length m.rows) code-is

-- ---- each device is determined

-- an equation of each symbol by symbols of other devices: the others of its row, or for a diagonal its cells
abbrev equations : List ℕ
equations = 69904 ∷ 139808 ∷ 279616 ∷ 559232 ∷ 69889 ∷ 139778 ∷ 279556 ∷ 559112 ∷ 69649 ∷ 139298 ∷ 278596 ∷ 557192 ∷ 65809 ∷ 131618 ∷ 263236 ∷ 526472 ∷ 4369 ∷ 8738 ∷ 17476 ∷ 34952 ∷ 149505 ∷ 294930 ∷ 524580 ∷ 4680 ∷ []

-- symbol t of device d has its equation among the symbols of the others
abbrev is-read : ℕ → ℕ → Bool
is-read d t = not (has (device_symbols literal d) t)
    || (is_equation literal t (get_or equations t 0) && within (get_or equations t 0) (survivors literal (device_symbols literal d)))

all-read : all_below 6 (λ d. all_below 24 (is-read d)) ≡ true
unfolding all_below has within minus sum
all-read = refl

has-of : (b c e : Bool) → b ≡ true → (not b || (c && e)) ≡ true → (c ≡ true) × (e ≡ true)
has-of true true true on h = (refl, refl)
has-of true true false on h = cc
has-of true false e on h = cc
has-of false c e on h = cc

literal-few : (d : ℕ) → d < 6 → device_symbols literal d < 2 ^ 24
literal-few zero low = lit< tt
literal-few (suc zero) low = lit< tt
literal-few (suc (suc zero)) low = lit< tt
literal-few (suc (suc (suc zero))) low = lit< tt
literal-few (suc (suc (suc (suc zero)))) low = lit< tt
literal-few (suc (suc (suc (suc (suc zero))))) low = lit< tt
literal-few (suc (suc (suc (suc (suc (suc d)))))) low = absurd (omega (arith, low))

literal-determined : (d t : ℕ) → d < 6 → bit_at (device_symbols literal d) t ≡ 1
    → has_equation literal (survivors literal (device_symbols literal d)) t ≡ true
literal-determined d t low gone =
    let small : t < 24 = ⊎_elim (λ (h : t < 24). h) (λ (h : 24 ≤ t). absurd (omega (arith, gone, bit_at_above (device_symbols literal d) 24 t (literal-few d low) h))) (cases_lt t 24) in
    let read : is-read d t ≡ true = true-all_below 24 (is-read d) (true-all_below 6 (λ e. all_below 24 (is-read e)) all-read d low) t small in
    let parts = has-of (has (device_symbols literal d) t) _ _ (has-true (device_symbols literal d) t gone) read in
    any_subset-true (survivors literal (device_symbols literal d)) (is_equation literal t) (get_or equations t 0) parts.1 parts.0

-- the others determine the symbols of each device
pub drill-determined : (d t : ℕ) → d < 6 → bit_at (device_symbols drill_code d) t ≡ 1
    → has_equation drill_code (survivors drill_code (device_symbols drill_code d)) t ≡ true
drill-determined d t low =
    subst (λ (m : Code). bit_at (device_symbols m d) t ≡ 1 → has_equation m (survivors m (device_symbols m d)) t ≡ true) (sym code-is) (literal-determined d t low)

pub drill-below : (d : ℕ) → d < 6 → device_symbols drill_code d < 2 ^ length drill_code.rows
drill-below d low = subst (λ (m : Code). device_symbols m d < 2 ^ length m.rows) (sym code-is) (literal-few d low)

-- ---- the form of the image

pub drill-fits : FitsCode drill_layout drill_code
unfolding drill_layout
drill-fits = record { devices = refl; symbols = refl }

pub drill-version : drill_layout.version ≡ 1
unfolding drill_layout
drill-version = refl

pub drill-bytes : drill_layout.symbol_bytes ≡ 4096
unfolding drill_layout
drill-bytes = refl

pub drill-stripes : drill_layout.stripes ≡ 64
unfolding drill_layout
drill-stripes = refl

pub drill-symbols : stripe_symbols drill_layout ≡ 24
unfolding drill_layout
drill-symbols = ap (λ (m : Code). m.devices * m.symbols_per_device) code-is

literal-checked : checked_layout (dimensions literal) 4096 64 ≡ Ok (layout (dimensions literal) 4096 64)
literal-checked = refl

-- so its head is made
pub drill-checked : checked_layout (dimensions drill_code) 4096 64 ≡ Ok drill_layout
unfolding drill_layout
drill-checked = subst (λ (m : Code). checked_layout (dimensions m) 4096 64 ≡ Ok (layout (dimensions m) 4096 64)) (sym code-is) literal-checked
