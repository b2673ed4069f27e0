-- The headline of `sectors`: a stripe is refused exactly where the symbols that can be read of it do
-- not determine the others; else the image that is written is the patched one; and where the symbols
-- that can be read come from codewords, it is the codewords' own.
use Rattle.std.specs.Prelude.{List, Ok, length, ℕ, ◌≡◌, ◌≤◌}
use Rattle.mr_image.specs.Images.{Layout, image_of}
use Rattle.mr_mend.specs.Scripts.{script_text}
use Rattle.mr_model.specs.Code.{Code}
use Rattle.mr_patch.specs.Damages.{DamageParts, OthersFrom, code_file, patched_file, set_reads}
use Rattle.mr_sector.specs.Sectors.{AreSectors, HasFirstBadSector}
use Rattle.mr_sector.specs.declared.sectors.TheConstants.{SECTORS_LIMIT}
use Rattle.mr_sectors.specs.Counts.{mended_of, patterns_of}
use Rattle.mr_sectors.specs.Repairs.{report_text}
use Rattle.mr_survey.specs.Surveys.{IsFirstUndetermined}
use Rattle.mr_survey.specs.declared.errors.UndeterminedIn.{UndeterminedIn as OpenStripe}
use Rattle.mr_words.specs.declared.sectors_words.SectorsWords.{SectorsWords}
use Rattle.mr_steps.specs.Faults.{fault_line}
use Rattle.mr_steps.specs.Losses.{lost_symbols_given}
use Rattle.mr_steps.specs.Sinks.{HasLine}
use Rattle.mr_steps.specs.Texts.{matrix_given}
use Rattle.mr_steps.specs.declared.fault.Fault.TheVariants.{BadSectors, UndeterminedIn}
use Rattle.mr_top.specs.Ran.{Ran, Wrote}
use Rattle.mr_top.specs.Rebuild.{head_given}

-- The files spell this code and this layout, the word these lost symbols, and the list is not too
-- long.
pub record AreRead (contents : List ℕ → List ℕ) (words : SectorsWords) (m : Code) (lost : ℕ)
    (l : Layout) : Type 0 where
  pub matrix : matrix_given (contents words.matrix) ≡ Ok m
  pub lost_is : lost_symbols_given m words.lost ≡ Ok lost
  pub head : head_given m (contents words.image) ≡ Ok l
  pub few : length (contents words.bad) ≤ SECTORS_LIMIT

-- They spell this damage, and the list is that of its sectors.
pub record IsSpelled (contents : List ℕ → List ℕ) (words : SectorsWords) (d : DamageParts)
    : Type 0 where
  pub read : AreRead contents words d.code d.lost d.layout
  pub list : contents words.bad ≡ script_text d.sectors
  pub sectors : AreSectors d.layout d.lost d.sectors

-- The patched image was written, and three lines of counts; and it is that of the codewords, where
-- the symbols that do not fail come from data.
pub record HasRepaired (d : DamageParts) (budget : ℕ) (bytes : List ℕ) (ran : Ran) : Type 0 where
  pub patched : Wrote ran (patched_file d budget bytes)
      (report_text (patterns_of d) (mended_of d) (set_reads d budget d.layout.stripes))
  pub own : (columns : ℕ → List (List ℕ)) → OthersFrom d (image_of d.layout bytes) columns
      → Wrote ran (code_file d columns)
      (report_text (patterns_of d) (mended_of d) (set_reads d budget d.layout.stripes))

-- `sectors` keeps to the headline.
pub record SectorsRight (contents : List ℕ → List ℕ) (words : SectorsWords) (failed : Type 0)
    (ran : Ran) : Type 0 where
  pub refused : (d : DamageParts) (at : OpenStripe) → IsSpelled contents words d
      → IsFirstUndetermined d at
      → (ran.status ≡ 7)
      × HasLine ran.report_old ran.report_new failed
      (fault_line (UndeterminedIn at.stripe at.symbol))
  pub only : (d : DamageParts) → IsSpelled contents words d → ran.status ≡ 7
      → (at : OpenStripe) × IsFirstUndetermined d at
  pub bad_line : (m : Code) (lost : ℕ) (l : Layout) (line : ℕ) → AreRead contents words m lost l
      → HasFirstBadSector l lost (contents words.bad) line
      → (ran.status ≡ 12)
      × HasLine ran.report_old ran.report_new failed (fault_line (BadSectors line))
  pub repaired : ran.status ≡ 0 → (d : DamageParts) → IsSpelled contents words d
      → HasRepaired d words.budget (contents words.image) ran
