-- The steps of `sectors`: the eyes that it asks for, and the bytes that they take.
use Rattle.std.specs.Prelude.{List, Ok, [], ℕ, ◌∷◌}
use Rattle.mr_bits.specs.declared.errors.What.TheVariants.{SectorBytes}
use Rattle.mr_image.specs.Images.{Layout}
use Rattle.mr_io.specs.declared.asked.Asked.{Asked}
use Rattle.mr_io.specs.declared.duty.Duty.TheVariants.{Copy, Mend}
use Rattle.mr_mend.specs.declared.asks.Ask.{Ask}
use Rattle.mr_patch.specs.Damages.{DamageParts}
use Rattle.mr_sector.specs.Sectors.{sectors_of}
use Rattle.mr_sector.specs.declared.sectors.TheConstants.{SECTORS_LIMIT}
use Rattle.mr_sectors.specs.Steps.{repair_answer}
use Rattle.mr_words.specs.declared.sectors_words.SectorsWords.{SectorsWords}
use Rattle.mr_steps.specs.Losses.{lost_symbols_given}
use Rattle.mr_steps.specs.Readings.{Reading, given, ◌>>=◌}
use Rattle.mr_steps.specs.Sinks.{Output}
use Rattle.mr_steps.specs.TextFiles.{matrix_file, text_within}
use Rattle.mr_top.specs.RebuildSteps.{head_file}
use Rattle.mr_top.specs.Sectors.{damage_of, determined_damage, or_bad_sectors}
use Rattle.mr_top.specs.declared.damage_read.DamageRead.{DamageRead}

-- the sectors that a file lists
unfoldable pub sectors_file : (List ℕ → List ℕ) → List ℕ → ℕ → Layout → Reading (List Ask)
sectors_file contents bad lost l = do
  text ← text_within SECTORS_LIMIT contents bad SectorBytes
  given (or_bad_sectors (sectors_of l lost text))

-- what fails, as the files spell it
unfoldable pub damage_file : (List ℕ → List ℕ) → SectorsWords → Reading DamageParts
damage_file contents words = do
  m ← matrix_file contents words.matrix
  lost ← given (lost_symbols_given m words.lost)
  l ← head_file contents words.image m
  sectors ← sectors_file contents words.bad lost l
  given (Ok (damage_of m lost l sectors))

-- what was read of it
abbrev pub damage_in : DamageRead → DamageParts
damage_in read = damage_of read.matrix read.lost read.head read.sectors.items

-- a repair of what may be determined
unfoldable pub determined_answer : (List ℕ → List ℕ) → List ℕ → ℕ → DamageParts → Reading Output
determined_answer contents image budget d = do
  whole ← given (determined_damage d)
  repair_answer contents image whole budget

-- the steps of sectors MATRIX IMAGE LOST BAD
unfoldable pub sectors_answer : (List ℕ → List ℕ) → SectorsWords → Reading Output
sectors_answer contents words = do
  d ← damage_file contents words
  determined_answer contents words.image words.budget d

-- the eyes of a repair
abbrev pub repair_eyes : List ℕ → List Asked
repair_eyes image = record { name = image; duty = Mend } ∷ record { name = image; duty = Copy } ∷ []
