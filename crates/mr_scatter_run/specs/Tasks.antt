-- What `scatter` is asked for and what it does: the head of a stream, the lost devices, what their files get, and its lines.
use Rattle.std.specs.Prelude.{ℕ, ◌*◌, ◌==◌, ◌++◌, List, [], ◌∷◌, codes, decimal, drop, encode_utf8_all, length, map, nat_lt, take, Option, None, Some, Result, Ok, Err, if◌then◌else◌}
use Rattle.std.specs.Result.{result_map_both}
use Rattle.mr_model.specs.Code.{Code, Dimensions, dimensions}
use Rattle.mr_image.specs.Heads.{file_bytes, layout, number_at, read_head}
use Rattle.mr_image.specs.Images.{Layout, body_bytes}
use Rattle.mr_image.specs.declared.faults.ImageKind.TheVariants.{Head, Length}
use Rattle.mr_image.specs.declared.limits.TheConstants.{HEAD_BYTES}
use Rattle.mr_words.specs.Lost.{lost_numbers}
use Rattle.mr_array_words.specs.Scatter.{ScatterAsked}
use Rattle.mr_devices.specs.Places.{part_bytes}
use Rattle.mr_devices.specs.Writing.{Shelf}
use Rattle.mr_scatter.specs.Parts.{whole_stripes}
use Rattle.mr_steps.specs.Faults.{fault_line, head_fault, joined}
use Rattle.mr_steps.specs.Losses.{lost_symbols_given}
use Rattle.mr_steps.specs.Readings.{Reading, given, ◌>>=◌}
use Rattle.mr_steps.specs.Refusals.{followed_by}
use Rattle.mr_steps.specs.TextFiles.{matrix_file}
use Rattle.mr_steps.specs.declared.fault.Fault.{Fault}
use Rattle.mr_steps.specs.declared.fault.Fault.TheVariants.{BadImage}
use Rattle.mr_scatter_run.specs.declared.task.Ready.{Ready}

-- an image of this layout, whose first stripe is number `first` of the array, to these devices
pub record Task : Type 0 where
  pub layout : Layout
  pub first : ℕ
  pub lost : List ℕ

-- the task that is made ready
abbrev pub task_in : Ready → Task
task_in ready = record { layout = ready.head; first = ready.first; lost = ready.lost.items }

-- ---- the head of a stream

-- the length that a file with the numbers of this head has, for a code of these dimensions
abbrev pub named_length : Dimensions → List ℕ → ℕ
named_length d head = file_bytes (layout d (number_at 16 head) (number_at 20 head))

-- the layout that these bytes spell, as the head of a file of the length that they name
unfoldable pub head_given : Dimensions → List ℕ → Result Layout Fault
head_given d head = result_map_both (λ l. l) head_fault (read_head head d (named_length d head))

-- the layout that the head of a stream spells, be the stream as long as it may
unfoldable pub stream_head : Dimensions → List ℕ → Result Layout Fault
stream_head d left =
    if nat_lt (length left) HEAD_BYTES then Err (BadImage Head) else head_given d (take HEAD_BYTES left)

-- the bytes behind the head
abbrev pub body_of : List ℕ → List ℕ
body_of left = drop HEAD_BYTES left

-- ---- the task

-- the numbers of the devices that a LOST word lists, given by its characters
abbrev pub numbers_in : List ℕ → List ℕ
numbers_in lost = lost_numbers (encode_utf8_all lost)

-- these numbers, or the refusal of the first that is no device of the code
unfoldable pub lost_given : Code → List ℕ → Result (List ℕ) Fault
lost_given m lost = followed_by (lost_symbols_given m lost) (λ _. Ok (numbers_in lost))

-- the task for a code, where these bytes are left in the source
unfoldable pub task_for : List ℕ → ScatterAsked → Code → Result Task Fault
task_for left asked m =
    followed_by (lost_given m asked.lost)
    (λ lost. followed_by (stream_head (dimensions m) left)
    (λ l. Ok (record { layout = l; first = asked.first; lost = lost })))

-- the steps before a device is opened
unfoldable pub task_of : (List ℕ → List ℕ) → List ℕ → ScatterAsked → Reading Task
task_of contents left asked = do
  m ← matrix_file contents asked.matrix
  given (task_for left asked m)

-- the task, where the stream ends with the last symbol
abbrev pub whole_given : List ℕ → Task → Result Task Fault
whole_given left task =
    if length (body_of left) == body_bytes task.layout then Ok task else Err (BadImage Length)

-- all steps
unfoldable pub scatter_answer : (List ℕ → List ℕ) → List ℕ → ScatterAsked → Reading Task
scatter_answer contents left asked = do
  task ← task_of contents left asked
  given (whole_given left task)

-- ---- the device files

-- the files of these names are open besides, as they were
abbrev pub opening_all : List (List ℕ) → Shelf → Shelf
opening_all names shelf = record shelf { opened = shelf.opened ++ map shelf.contents names }

-- where the first stripe begins on each device
abbrev pub place_of : Task → ℕ
place_of task = task.first * part_bytes task.layout

-- the bytes that are written to all devices together
abbrev pub written_bytes : Task → ℕ
written_bytes task = task.layout.stripes * (part_bytes task.layout * length task.lost)

-- ---- the lines of the report

-- the line of a run that answers: the stripes, and the bytes that were written
abbrev pub scatter_line : Task → List ℕ
scatter_line task = joined (codes "stripes " ∷ decimal task.layout.stripes ∷ codes " written "
    ∷ decimal (written_bytes task) ∷ codes "\n" ∷ [])

-- the line of so many stripes
abbrev pub stripes_line : ℕ → List ℕ
stripes_line count = joined (codes "stripes " ∷ decimal count ∷ codes "\n" ∷ [])

-- the lines of a refusal: the stripes that were written whole, where the devices were open, and the fault's line
abbrev pub end_text : Option ℕ → Fault → List ℕ
end_text None fault = fault_line fault
end_text (Some stripes) fault = stripes_line stripes ++ fault_line fault

-- how many stripes are written whole where the stream ends too early or too late, if the devices are opened at all
abbrev pub stripes_by : Result Task Fault → List ℕ → Option ℕ
stripes_by (Err fault) left = None
stripes_by (Ok task) left = Some (whole_stripes task.layout (length (body_of left)))

-- the lines of a refusal that is foreseen
abbrev pub refusal_text : (List ℕ → List ℕ) → List ℕ → ScatterAsked → Fault → List ℕ
refusal_text contents left asked fault = end_text (stripes_by (task_of contents left asked).result left) fault
