-- The command `rebuild`: what it accepts.
use Rattle.std.specs.Prelude.{Bool, Err, List, None, Ok, Option, Result, Some, [], if◌then◌else◌, is_some, length, nat_le, nat_lt, option_map, take, ℕ, ◌&&◌, ◌+◌, ◌==◌, ◌∷◌}
use Rattle.mr_bits.specs.declared.errors.What.TheVariants.{ScriptBytes}
use Rattle.mr_choices.specs.Chosen.{lines_chosen, plans_chosen, singles_chosen}
use Rattle.mr_choices.specs.Handed.{plan_file_given}
use Rattle.mr_choices.specs.Rotations.{undetermined_at}
use Rattle.mr_choices.specs.declared.chosen.ChosenPlan.{ChosenPlan}
use Rattle.mr_choices.specs.declared.errors.ProblemsError.{ProblemsError}
use Rattle.mr_choices.specs.declared.errors.ProblemsError.TheVariants.{Memory as ProblemsMemory, Undetermined as IsUndetermined}
use Rattle.mr_choices.specs.declared.errors.UndeterminedAt.{UndeterminedAt}
use Rattle.mr_eq.specs.Singles.{SinglesOf}
use Rattle.mr_image.specs.Heads.{read_head}
use Rattle.mr_image.specs.Images.{Layout}
use Rattle.mr_image.specs.Rotated.{rotations}
use Rattle.mr_image.specs.declared.faults.ImageKind.TheVariants.{Head, Planned}
use Rattle.mr_image.specs.declared.limits.TheConstants.{HEAD_BYTES}
use Rattle.mr_mend.specs.Scripts.{asks_of, script_limit}
use Rattle.mr_mend.specs.declared.asks.Ask.{Ask}
use Rattle.mr_mend.specs.declared.asks.ScriptFault.{ScriptFault}
use Rattle.mr_mend.specs.declared.asks.ScriptFault.TheVariants.{Large as IsLargeScript, Line as IsBadLine, Memory as ScriptMemory}
use Rattle.mr_model.specs.Code.{Code, dimensions}
use Rattle.mr_plan.specs.Plans.{PlanParts}
use Rattle.mr_ready.specs.Orders.{OrderParts}
use Rattle.mr_words.specs.declared.rebuild_words.RebuildWords.{RebuildWords}
use Rattle.mr_steps.specs.Losses.{targets_given}
use Rattle.mr_steps.specs.Refusals.{followed_by, ◌>>=◌}
use Rattle.mr_steps.specs.Texts.{matrix_given}
use Rattle.mr_steps.specs.declared.choice_line.ChoiceLine.{ChoiceLine}
use Rattle.mr_steps.specs.declared.fault.Fault.{Fault}
use Rattle.mr_steps.specs.declared.fault.Fault.TheVariants.{BadImage, BadScript, Memory, TooLarge, UndeterminedAt as RotationFault}
use Rattle.mr_top.specs.Encode.{or_head_fault}

-- ---- the image

-- the layout that the head of an image file spells for a code
unfoldable pub head_given : Code → List ℕ → Result Layout Fault
head_given m bytes =
    if nat_lt (length bytes) HEAD_BYTES then Err (BadImage Head)
    else or_head_fault (read_head (take HEAD_BYTES bytes) (dimensions m) (length bytes))

-- an image of version 2 has a plan for each rotation, and so takes none that is handed in
abbrev pub unplanned : Option ChosenPlan → Layout → Result Layout Fault
unplanned handed l = if is_some handed && l.version == 2 then Err (BadImage Planned) else Ok l

-- the layout, or the refusal of a rotation
abbrev pub unless_rotation : Option UndeterminedAt → Layout → Result Layout Fault
unless_rotation None l = Ok l
unless_rotation (Some at) l = Err (RotationFault at.rotation at.symbol)

-- the fault of a rotation, or of want of memory
abbrev pub rotation_fault : ProblemsError → Fault
rotation_fault (IsUndetermined at) = RotationFault at.rotation at.symbol
rotation_fault ProblemsMemory = Memory

-- the layout, where the lost symbols are determined in each rotation in use
abbrev pub rotations_given : Code → ℕ → Layout → Result Layout Fault
rotations_given m lost l = unless_rotation (undetermined_at m lost (rotations l)) l

-- a layout that was read, where neither of both is refused
abbrev pub layout_allowed : Code → ℕ → Option ChosenPlan → Layout → Result Layout Fault
layout_allowed m lost handed l = followed_by (unplanned handed l) (rotations_given m lost)

-- the layout of an image that is to be rebuilt: the first refusal, or the layout
abbrev pub image_given : Code → ℕ → Option ChosenPlan → List ℕ → Result Layout Fault
image_given m lost handed bytes = do
  l ← head_given m bytes
  layout_allowed m lost handed l

-- ---- the script

-- the bytes left in a script that are not too many
abbrev pub script_within : List ℕ → Result (List ℕ) Fault
script_within left =
    if nat_le (length left) script_limit then Ok left
    else Err (TooLarge ScriptBytes (script_limit + 1))

-- the fault of a script
abbrev pub script_fault : ScriptFault → Fault
script_fault (IsBadLine line) = BadScript line
script_fault (IsLargeScript large) = TooLarge large.what large.number
script_fault ScriptMemory = Memory

-- the asks, or the refusal of the script
abbrev pub or_script_fault : Result (List Ask) ScriptFault → Result (List Ask) Fault
or_script_fault (Ok asks) = Ok asks
or_script_fault (Err fault) = Err (script_fault fault)

-- what the script asks of an image of this layout
unfoldable pub asks_given : Layout → List ℕ → Result (List Ask) Fault
asks_given l left = followed_by (script_within left) (λ bytes. or_script_fault (asks_of l bytes))

-- ---- the plans

-- the plan that was handed in, or those that the search gives, one for each of the first n
-- rotations, each with the whole budget
abbrev pub plans_used : Code → ℕ → ℕ → ℕ → Option ChosenPlan → List PlanParts
plans_used m lost budget n None = plans_chosen m lost budget n
plans_used m lost budget n (Some handed) = handed.plan ∷ []

-- the line of each
abbrev pub lines_used : Code → ℕ → ℕ → ℕ → Option ChosenPlan → List ChoiceLine
lines_used m lost budget n None = lines_chosen m lost budget n
lines_used m lost budget n (Some handed) = handed.line ∷ []

-- the single equations of the lost symbols, one list for each of the first n rotations, where the
-- reads are served while the image is mended; after that none is needed
abbrev pub singles_used : Code → ℕ → ℕ → ℕ → Bool → List SinglesOf
singles_used m lost budget n live = if live then singles_chosen m lost budget n else []

-- ---- what is accepted

-- up to the plan file of a rebuild
abbrev pub file_accepted : (List ℕ → List ℕ) → RebuildWords → Result (Option ChosenPlan) Fault
file_accepted contents words = do
  m ← matrix_given (contents words.matrix)
  targets ← targets_given m words.lost
  plan_file_given m targets (option_map contents words.plan)

-- rebuild MATRIX IMAGE LOST, up to the script: the layout of the image
abbrev pub image_accepted : (List ℕ → List ℕ) → RebuildWords → Result Layout Fault
image_accepted contents words = do
  m ← matrix_given (contents words.matrix)
  targets ← targets_given m words.lost
  handed ← plan_file_given m targets (option_map contents words.plan)
  image_given m targets handed (contents words.image)

-- what is to be rebuilt for these words: by the plan of each rotation in use with the line that
-- says how it was found, and with the reads that are asked for
abbrev pub order_for : RebuildWords → Code → ℕ → Option ChosenPlan → Layout → List Ask → OrderParts
order_for words m targets handed l asks = record {
  head = l;
  plans = plans_used m targets words.budget (rotations l) handed;
  lines = lines_used m targets words.budget (rotations l) handed;
  singles = singles_used m targets words.budget (rotations l) words.live;
  asks = asks;
  workers = words.workers;
  live = words.live;
}

-- A matrix and the lost symbols, what is to be rebuilt, and the bytes of the image file.
pub record RebuildAccepted : Type 0 where
  pub code : Code
  pub lost : ℕ
  pub order : OrderParts
  pub bytes : List ℕ

-- the same, of what was read
abbrev pub rebuild_of_parts : (List ℕ → List ℕ) → RebuildWords → Code → ℕ → Option ChosenPlan
    → Layout → List Ask → RebuildAccepted
rebuild_of_parts contents words m targets handed l asks = record {
  code = m;
  lost = targets;
  order = order_for words m targets handed l asks;
  bytes = contents words.image;
}

-- rebuild MATRIX IMAGE LOST, with these bytes left in the script
abbrev pub rebuild_accepted : (List ℕ → List ℕ) → List ℕ → RebuildWords
    → Result RebuildAccepted Fault
rebuild_accepted contents left words = do
  m ← matrix_given (contents words.matrix)
  targets ← targets_given m words.lost
  handed ← plan_file_given m targets (option_map contents words.plan)
  l ← image_given m targets handed (contents words.image)
  asks ← asks_given l left
  Ok (rebuild_of_parts contents words m targets handed l asks)
