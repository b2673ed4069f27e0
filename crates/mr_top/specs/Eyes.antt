-- The eyes that a request asks for, each where nothing before it was refused.
use Rattle.std.specs.Prelude.{Err, List, None, Ok, Option, Result, Some, [], ℕ, ◌++◌, ◌∷◌}
use Rattle.mr_io.specs.declared.asked.Asked.{Asked}
use Rattle.mr_io.specs.declared.duty.Duty.TheVariants.{Copy, Head, Text}
use Rattle.mr_ready.specs.Duties.{duties_of, eyes_on}
use Rattle.mr_words.specs.declared.rebuild_words.RebuildWords.{RebuildWords}
use Rattle.mr_words.specs.declared.sectors_words.SectorsWords.{SectorsWords}
use Rattle.mr_steps.specs.Requests.{rebuild_words}
use Rattle.mr_steps.specs.Losses.{loss_accepted}
use Rattle.mr_steps.specs.Texts.{matrix_given}
use Rattle.mr_steps.specs.declared.fault.Fault.{Fault}
use Rattle.mr_steps.specs.declared.request.Request.{Request}
use Rattle.mr_steps.specs.declared.request.Request.TheVariants.{Check, Convert, Drill, Encode, Make, Plan, Rebuild, Scrub, Sectors}
use Rattle.mr_top.specs.Convert.{first_accepted}
use Rattle.mr_top.specs.Encode.{layout_accepted}
use Rattle.mr_top.specs.Rebuild.{file_accepted, rebuild_accepted}
use Rattle.mr_top.specs.Scrub.{either_accepted}
use Rattle.mr_top.specs.Sectors.{head_accepted, lost_accepted, repair_accepted, sectors_words}
use Rattle.mr_top.specs.SectorsSteps.{repair_eyes}

-- these eyes, where the steps before them gave a value
abbrev pub after : {X : Type 0} → Result X Fault → List Asked → List Asked
after (Ok x) eyes = eyes
after (Err fault) eyes = []

-- the eye of a plan file, where one is named
abbrev pub plan_eyes : Option (List ℕ) → List Asked
plan_eyes None = []
plan_eyes (Some plan) = record { name = plan; duty = Text } ∷ []

-- the eyes of a rebuild
abbrev pub rebuild_eyes : (List ℕ → List ℕ) → List ℕ → RebuildWords → List Asked
rebuild_eyes contents left words =
    record { name = words.matrix; duty = Text }
    ∷ after (loss_accepted contents words.matrix words.lost) (plan_eyes words.plan)
    ++ after (file_accepted contents words) (record { name = words.image; duty = Head } ∷ [])
    ++ after (rebuild_accepted contents left words)
    (eyes_on words.image (duties_of words.workers words.live))

-- the eyes of a command that reads an image file whole, where the steps up to the matrix, and up to
-- the layout, gave a value
abbrev pub whole_eyes : {X Y : Type 0} → List ℕ → List ℕ → Result X Fault → Result Y Fault
    → List Asked
whole_eyes matrix image code layout =
    record { name = matrix; duty = Text }
    ∷ after code (record { name = image; duty = Head } ∷ [])
    ++ after layout (record { name = image; duty = Copy } ∷ [])

-- the eyes of a repair
abbrev pub sectors_eyes : (List ℕ → List ℕ) → SectorsWords → List Asked
sectors_eyes contents words =
    record { name = words.matrix; duty = Text }
    ∷ after (lost_accepted contents words) (record { name = words.image; duty = Head } ∷ [])
    ++ after (head_accepted contents words) (record { name = words.bad; duty = Text } ∷ [])
    ++ after (repair_accepted contents words) (repair_eyes words.image)

-- the eyes of a request
abbrev pub request_eyes : (List ℕ → List ℕ) → List ℕ → Request → List Asked
request_eyes contents left (Plan matrix lost workers budget) =
    record { name = matrix; duty = Text } ∷ []
request_eyes contents left (Check matrix lost plan) =
    record { name = matrix; duty = Text }
    ∷ after (loss_accepted contents matrix lost) (record { name = plan; duty = Text } ∷ [])
request_eyes contents left (Make code p) = []
request_eyes contents left (Encode matrix payload stripes bytes) =
    record { name = matrix; duty = Text }
    ∷ after (layout_accepted contents matrix stripes bytes)
    (record { name = payload; duty = Copy } ∷ [])
request_eyes contents left (Rebuild matrix image lost workers budget plan live) =
    rebuild_eyes contents left (rebuild_words matrix image lost workers budget plan live)
request_eyes contents left (Convert matrix image) =
    whole_eyes matrix image (matrix_given (contents matrix))
    (first_accepted contents matrix image)
request_eyes contents left (Scrub matrix image) =
    whole_eyes matrix image (matrix_given (contents matrix))
    (either_accepted contents matrix image)
request_eyes contents left (Sectors matrix image lost bad budget) =
    sectors_eyes contents (sectors_words matrix image lost bad budget)
request_eyes contents left (Drill number) = []

-- the eyes of words: none where they are not read
abbrev pub words_eyes : (List ℕ → List ℕ) → List ℕ → Option Request → List Asked
words_eyes contents left None = []
words_eyes contents left (Some request) = request_eyes contents left request

-- all eyes of a command, in order: none where the words are not read
abbrev pub command_eyes : Option Request → List Asked
command_eyes None = []
command_eyes (Some (Plan matrix lost workers budget)) = record { name = matrix; duty = Text } ∷ []
command_eyes (Some (Check matrix lost plan)) =
    record { name = matrix; duty = Text } ∷ record { name = plan; duty = Text } ∷ []
command_eyes (Some (Make code p)) = []
command_eyes (Some (Encode matrix payload stripes bytes)) =
    record { name = matrix; duty = Text } ∷ record { name = payload; duty = Copy } ∷ []
command_eyes (Some (Rebuild matrix image lost workers budget plan live)) =
    record { name = matrix; duty = Text }
    ∷ plan_eyes plan ++ record { name = image; duty = Head } ∷ eyes_on image (duties_of workers live)
command_eyes (Some (Convert matrix image)) =
    record { name = matrix; duty = Text } ∷ record { name = image; duty = Head }
    ∷ record { name = image; duty = Copy } ∷ []
command_eyes (Some (Scrub matrix image)) =
    record { name = matrix; duty = Text } ∷ record { name = image; duty = Head }
    ∷ record { name = image; duty = Copy } ∷ []
command_eyes (Some (Sectors matrix image lost bad budget)) =
    record { name = matrix; duty = Text } ∷ record { name = image; duty = Head }
    ∷ record { name = bad; duty = Text } ∷ repair_eyes image
command_eyes (Some (Drill number)) = []
