-- What a repair writes.
use Rattle.std.proofs.Common.{◌≡◌, ℕ, ◌*◌, ◌^◌, ◌<◌, length, sym, List, Option, Some, None, ◌∙◌, subst}
use Rattle.std.specs.Prelude.{IfSome}
use Rattle.mr_bits.specs.Matrices.{IsMatrixCode}
use Rattle.mr_model.specs.Code.{Code}
use Rattle.mr_image.specs.Images.{IsLayout, Layout}
use Rattle.mr_image.specs.Rotated.{FitsCode}
use Rattle.mr_mend.specs.declared.asks.Ask.{Ask}
use Rattle.mr_sector.specs.Sectors.{AreSectors}
use Rattle.mr_patch.specs.Damages.{DamageParts, IsDamage, patched_file, set_reads}
use Rattle.mr_patch.proofs.Assembling.{gives-code-files}
use Rattle.mr_steps.specs.Sinks.{Output}
use Rattle.mr_sectors.specs.Counts.{mended_of, patterns_of}
use Rattle.mr_sectors.specs.Laws.{WritesCodewords}
use Rattle.mr_sectors.specs.Repairs.{repair_output, report_text}

-- sectors of an image of a code, and lost symbols of it, are a damage
pub damage-from : (l : Layout) (m : Code) (lost : ℕ) (sectors : List Ask) → IsMatrixCode m → FitsCode l m → lost < 2 ^ length m.rows → AreSectors l lost sectors
    → IsDamage (record { layout = l; code = m; lost = lost; sectors = sectors })
damage-from l m lost sectors is fits low are = record {
  fits = fits;
  few = subst (λ n. lost < 2 ^ n) (is.count ∙ sym (λ j. fits.devices j * fits.symbols j)) low;
  sectors = are;
}

-- the image, and the report of its counts
pub output-is : (d : DamageParts) (budget : ℕ) (bytes image : List ℕ) (patterns mended reads : ℕ) → image ≡ patched_file d budget bytes
    → patterns ≡ patterns_of d → mended ≡ mended_of d → reads ≡ set_reads d budget d.layout.stripes
    → ◌≡◌ {A = Output} (record { out = image; report = report_text patterns mended reads }) (repair_output d budget bytes)
output-is d budget bytes image patterns mended reads is p m r = λ j. record { out = is j; report = report_text (p j) (m j) (r j) }

-- where two eyes tell one file
pub output-told : (d : DamageParts) (budget : ℕ) (image : List ℕ) (patterns mended reads : ℕ) (mend copy : Option (List ℕ))
    → IfSome mend (λ bytes. copy ≡ Some bytes → image ≡ patched_file d budget bytes)
    → patterns ≡ patterns_of d → mended ≡ mended_of d → reads ≡ set_reads d budget d.layout.stripes
    → IfSome mend (λ bytes. copy ≡ Some bytes
    → ◌≡◌ {A = Output} (record { out = image; report = report_text patterns mended reads }) (repair_output d budget bytes))
output-told d budget image patterns mended reads None copy is p m r = tt
output-told d budget image patterns mended reads (Some bytes) copy is p m r = λ same. output-is d budget bytes image patterns mended reads (is same) p m r

-- where what does not fail comes from data, the image is that of the codewords
pub writes-codewords : (d : DamageParts) → IsLayout d.layout → IsMatrixCode d.code → IsDamage d → WritesCodewords d
writes-codewords d may is damage =
    record { written = λ budget bytes columns known from. (gives-code-files d may is damage).file budget bytes columns known from }
