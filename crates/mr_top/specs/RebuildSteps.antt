-- The steps of `rebuild`: the eyes that it asks for on the way, and the bytes that it takes.
use Rattle.std.specs.Prelude.{List, Ok, Option, Some, ℕ}
use Rattle.mr_choices.specs.Handed.{handed_file}
use Rattle.mr_choices.specs.declared.chosen.ChosenPlan.{ChosenPlan}
use Rattle.mr_image.specs.Images.{Layout}
use Rattle.mr_image.specs.declared.limits.TheConstants.{HEAD_BYTES}
use Rattle.mr_io.specs.Growth.{no_bytes}
use Rattle.mr_io.specs.declared.duty.Duty.TheVariants.{Head}
use Rattle.mr_mend.specs.declared.asks.Ask.{Ask}
use Rattle.mr_model.specs.Code.{Code}
use Rattle.mr_ready.specs.Duties.{duties_of, eyes_on}
use Rattle.mr_ready.specs.Orders.{OrderParts}
use Rattle.mr_words.specs.declared.rebuild_words.RebuildWords.{RebuildWords}
use Rattle.mr_steps.specs.Losses.{targets_given}
use Rattle.mr_steps.specs.Readings.{Reading, file_taking, given, ◌>>=◌}
use Rattle.mr_steps.specs.TextFiles.{matrix_file}
use Rattle.mr_top.specs.Findings.{Finding, rebuilding}
use Rattle.mr_top.specs.Rebuild.{asks_given, head_given, layout_allowed, order_for}
use Rattle.mr_top.specs.declared.image_read.ImageRead.{ImageRead}

-- the layout of an image file
unfoldable pub head_file : (List ℕ → List ℕ) → List ℕ → Code → Reading Layout
head_file contents image m = do
  bytes ← file_taking HEAD_BYTES contents image Head
  given (head_given m bytes)

-- the layout of an image file that is to be rebuilt
unfoldable pub image_file : (List ℕ → List ℕ) → List ℕ → Code → ℕ → Option ChosenPlan
    → Reading Layout
image_file contents image m targets handed = do
  l ← head_file contents image m
  given (layout_allowed m targets handed l)

-- What a rebuild reads before the script: the matrix, its lost symbols, the plan that was handed in
-- and the head of the image.
pub record ImageParts : Type 0 where
  pub matrix : Code
  pub lost : ℕ
  pub handed : Option ChosenPlan
  pub head : Layout

-- the same of what the code reads
abbrev pub parts_of : ImageRead → ImageParts
parts_of read =
    record { matrix = read.matrix; lost = read.lost; handed = read.handed; head = read.head }

-- these parts
abbrev pub parts_as : Code → ℕ → Option ChosenPlan → Layout → ImageParts
parts_as m targets handed l = record { matrix = m; lost = targets; handed = handed; head = l }

-- the matrix, the lost symbols, the plan that is handed in and the head of the image
unfoldable pub image_read : (List ℕ → List ℕ) → RebuildWords → Reading ImageParts
image_read contents words = do
  m ← matrix_file contents words.matrix
  targets ← given (targets_given m words.lost)
  handed ← handed_file contents words.plan m targets
  l ← image_file contents words.image m targets handed
  given (Ok (parts_as m targets handed l))

-- what is to be rebuilt of what was read, for these asks
abbrev pub order_of : RebuildWords → ImageParts → List Ask → OrderParts
order_of words read asks = order_for words read.matrix read.lost read.handed read.head asks

-- all eyes that mend the image, serve the reads and copy are asked for, and nothing is read by them
unfoldable pub rebuild_by : (List ℕ → List ℕ) → RebuildWords → ImageParts → List Ask
    → Reading Finding
rebuild_by contents words read asks = record {
  eyes = eyes_on words.image (duties_of words.workers words.live);
  taken = no_bytes;
  result = Ok (rebuilding (order_of words read asks) (Some (contents words.image)));
}

-- rebuild MATRIX IMAGE LOST, with these bytes left in the script
unfoldable pub rebuild_answer : (List ℕ → List ℕ) → List ℕ → RebuildWords → Reading Finding
rebuild_answer contents left words = do
  read ← image_read contents words
  asks ← given (asks_given read.head left)
  rebuild_by contents words read asks
