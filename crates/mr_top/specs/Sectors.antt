-- The command `sectors`: what it accepts, and what it writes.
use Rattle.std.specs.Prelude.{Err, List, None, Ok, Option, Result, Some, ℕ}
use Rattle.mr_bits.specs.declared.errors.What.TheVariants.{SectorBytes}
use Rattle.mr_image.specs.Images.{Layout}
use Rattle.mr_mend.specs.declared.asks.Ask.{Ask}
use Rattle.mr_model.specs.Code.{Code}
use Rattle.mr_patch.specs.Damages.{DamageParts}
use Rattle.mr_sector.specs.Sectors.{sectors_of}
use Rattle.mr_sector.specs.declared.sectors.TheConstants.{SECTORS_LIMIT}
use Rattle.mr_sectors.specs.Repairs.{repair_output}
use Rattle.mr_survey.specs.Surveys.{first_undetermined}
use Rattle.mr_survey.specs.declared.errors.UndeterminedIn.{UndeterminedIn as OpenStripe}
use Rattle.mr_words.specs.declared.sectors_words.SectorsWords.{SectorsWords}
use Rattle.mr_steps.specs.Losses.{lost_symbols_given}
use Rattle.mr_steps.specs.Refusals.{◌>>=◌}
use Rattle.mr_steps.specs.Sinks.{Output}
use Rattle.mr_steps.specs.Texts.{matrix_given, within}
use Rattle.mr_steps.specs.declared.fault.Fault.{Fault}
use Rattle.mr_steps.specs.declared.fault.Fault.TheVariants.{BadSectors, UndeterminedIn}
use Rattle.mr_top.specs.Rebuild.{head_given}

-- the words of a repair
abbrev pub sectors_words : List ℕ → List ℕ → List ℕ → List ℕ → ℕ → SectorsWords
sectors_words matrix image lost bad budget =
    record { matrix = matrix; image = image; lost = lost; bad = bad; budget = budget }

-- ---- what fails

-- the sectors of a list, or the refusal of its first bad line
abbrev pub or_bad_sectors : Result (List Ask) ℕ → Result (List Ask) Fault
or_bad_sectors (Ok sectors) = Ok sectors
or_bad_sectors (Err line) = Err (BadSectors line)

-- the sectors that the bytes of a file list, where they are not too many
abbrev pub sectors_given : Layout → ℕ → List ℕ → Result (List Ask) Fault
sectors_given l lost bytes = do
  text ← within SECTORS_LIMIT SectorBytes bytes
  or_bad_sectors (sectors_of l lost text)

-- what fails of an image of this code and layout
abbrev pub damage_of : Code → ℕ → Layout → List Ask → DamageParts
damage_of m lost l sectors = record { layout = l; code = m; lost = lost; sectors = sectors }

-- the damage, or the refusal of a stripe that is not determined
abbrev pub unless_stripe : Option OpenStripe → DamageParts → Result DamageParts Fault
unless_stripe None d = Ok d
unless_stripe (Some at) d = Err (UndeterminedIn at.stripe at.symbol)

-- a damage of which the symbols that can be read determine those that fail
abbrev pub determined_damage : DamageParts → Result DamageParts Fault
determined_damage d = unless_stripe (first_undetermined d) d

-- ---- sectors MATRIX IMAGE LOST BAD

-- up to the symbols of the lost devices
abbrev pub lost_accepted : (List ℕ → List ℕ) → SectorsWords → Result ℕ Fault
lost_accepted contents words = do
  m ← matrix_given (contents words.matrix)
  lost_symbols_given m words.lost

-- up to the layout of the image
abbrev pub head_accepted : (List ℕ → List ℕ) → SectorsWords → Result Layout Fault
head_accepted contents words = do
  m ← matrix_given (contents words.matrix)
  lost ← lost_symbols_given m words.lost
  head_given m (contents words.image)

-- up to the list
abbrev pub damage_accepted : (List ℕ → List ℕ) → SectorsWords → Result DamageParts Fault
damage_accepted contents words = do
  m ← matrix_given (contents words.matrix)
  lost ← lost_symbols_given m words.lost
  l ← head_given m (contents words.image)
  sectors ← sectors_given l lost (contents words.bad)
  Ok (damage_of m lost l sectors)

-- all that may be refused
abbrev pub repair_accepted : (List ℕ → List ℕ) → SectorsWords → Result DamageParts Fault
repair_accepted contents words = do
  d ← damage_accepted contents words
  determined_damage d

-- what is written
abbrev pub repair_written : (List ℕ → List ℕ) → SectorsWords → DamageParts → Output
repair_written contents words d = repair_output d words.budget (contents words.image)
