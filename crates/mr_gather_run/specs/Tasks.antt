-- What `gather` is asked for and what it does: the symbols that it reads, the image that it writes, and its line.
use Rattle.std.specs.Prelude.{ℕ, ◌+◌, ◌*◌, ◌/◌, ◌^◌, ◌<◌, ◌≡◌, ◌==◌, true, Bool, List, [], ◌∷◌, codes, decimal, get_or, length, min, nat_le, IsSome, Option, None, Some, Result, Ok, Err, if◌then◌else◌}
use Rattle.std.specs.List.{list_all}
use Rattle.std.specs.Option.{is_none}
use Rattle.std.specs.Result.{result_map_both}
use Rattle.mr_model.specs.Sets.{has, set_below}
use Rattle.mr_model.specs.Code.{Code, dimensions, survivors}
use Rattle.mr_model.specs.Members.{members}
use Rattle.mr_bits.specs.declared.errors.What.TheVariants.{PlanBytes}
use Rattle.mr_io.specs.Growth.{bytes_of}
use Rattle.mr_io.specs.declared.duty.Duty.TheVariants.{Copy}
use Rattle.mr_image.specs.Heads.{checked_layout, image_bytes}
use Rattle.mr_image.specs.Images.{Layout, stripe_symbols}
use Rattle.mr_image.specs.declared.faults.ImageKind.TheVariants.{Length}
use Rattle.mr_choices.specs.Handed.{sound_given}
use Rattle.mr_losses.specs.Losses.{symbols_of_devices}
use Rattle.mr_devices.specs.Places.{part_bytes}
use Rattle.mr_array_words.specs.Gather.{GatherAsked}
use Rattle.mr_gather.specs.Arrays.{gathered}
use Rattle.mr_gather.specs.declared.stripes.Gathering.{Gathering}
use Rattle.mr_steps.specs.Faults.{head_fault, joined}
use Rattle.mr_steps.specs.Readings.{Reading, given, ◌>>=◌}
use Rattle.mr_steps.specs.Refusals.{followed_by}
use Rattle.mr_steps.specs.TextFiles.{matrix_file, text_file}
use Rattle.mr_steps.specs.declared.fault.Fault.{Fault}
use Rattle.mr_steps.specs.declared.fault.Fault.TheVariants.{BadImage, NoDevice}
use Rattle.mr_gather_run.specs.Slots.{device_eyes}

-- an image of this layout, of the stripes from number `first` on, with the members of the set
pub record Task : Type 0 where
  pub layout : Layout
  pub set : ℕ
  pub first : ℕ

-- the task of a gathering
abbrev pub task_in : Gathering → Task
task_in gathering = record { layout = gathering.head; set = gathering.set; first = gathering.first }

-- There is a word for each device, and a file for each device that has a symbol of the set.
pub record CanGather (devices : List (Option (List ℕ))) (task : Task) : Type 0 where
  pub count : length devices ≡ task.layout.devices
  pub small : task.set < 2 ^ stripe_symbols task.layout
  pub held : (i : ℕ) → has task.set i ≡ true → IsSome (get_or devices (i / task.layout.symbols_per_device) None)

-- ---- the symbols that are read

-- the devices without a file
unfoldable pub lost_devices : List (Option (List ℕ)) → ℕ
lost_devices devices = set_below (length devices) (λ d. is_none (get_or devices d None))

-- the symbols of the devices without a file, where there is a word for each device of the code and no other; else the
-- refusal of the first device that not both of them have
unfoldable pub lost_given : Code → List (Option (List ℕ)) → Result ℕ Fault
lost_given m devices =
    if length devices == m.devices then Ok (symbols_of_devices m (lost_devices devices))
    else Err (NoDevice (min (length devices) m.devices))

-- the set of the valid plan of a plan file
unfoldable pub plan_set : (List ℕ → List ℕ) → List ℕ → Code → ℕ → Reading ℕ
plan_set contents plan m lost = do
  bytes ← text_file contents plan PlanBytes
  given (followed_by (sound_given m lost bytes) (λ plan. Ok plan.set))

-- the set of the plan, or all survivors where no plan is named
abbrev pub set_read : (List ℕ → List ℕ) → Option (List ℕ) → Code → ℕ → Reading ℕ
set_read contents None m lost = given (Ok (survivors m lost))
set_read contents (Some plan) m lost = plan_set contents plan m lost

-- ---- what is asked for

-- the layout of the image for a code, or the refusal of its numbers
abbrev pub layout_given : Code → GatherAsked → Result Layout Fault
layout_given m asked =
    result_map_both (λ l. l) head_fault (checked_layout (dimensions m) asked.bytes asked.stripes)

-- the task for a code
unfoldable pub task_for : (List ℕ → List ℕ) → GatherAsked → Code → Reading Task
task_for contents asked m = do
  l ← given (layout_given m asked)
  lost ← given (lost_given m asked.devices)
  set ← set_read contents asked.plan m lost
  given (Ok (record { layout = l; set = set; first = asked.first }))

-- the steps before a device is opened
unfoldable pub task_of : (List ℕ → List ℕ) → GatherAsked → Reading Task
task_of contents asked = do
  m ← matrix_file contents asked.matrix
  task_for contents asked m

-- ---- the devices

-- where the stripes end on each device
abbrev pub end_of : Task → ℕ
end_of task = (task.first + task.layout.stripes) * part_bytes task.layout

-- the device has no file, or its file reaches to this place
abbrev pub is_long : (List ℕ → List ℕ) → ℕ → Option (List ℕ) → Bool
is_long contents end None = true
is_long contents end (Some name) = nat_le end (length (contents name))

-- the bytes that are read of all devices together
abbrev pub read_bytes : Task → ℕ
read_bytes task = task.layout.stripes * (length (members task.set) * task.layout.symbol_bytes)

-- the devices: each that is there must reach to the end of the stripes
unfoldable pub devices_read : (List ℕ → List ℕ) → List (Option (List ℕ)) → Task → Reading Task
devices_read contents devices task = record {
  eyes = device_eyes devices;
  taken = bytes_of Copy (read_bytes task);
  result = if list_all (is_long contents (end_of task)) devices then Ok task else Err (BadImage Length);
}

-- all steps
unfoldable pub gather_answer : (List ℕ → List ℕ) → GatherAsked → Reading Task
gather_answer contents asked = do
  task ← task_of contents asked
  devices_read contents asked.devices task

-- ---- what is written

-- the bytes of device d
abbrev pub bytes_in : (List ℕ → List ℕ) → Option (List ℕ) → List ℕ
bytes_in contents None = []
bytes_in contents (Some name) = contents name

abbrev pub device_bytes : (List ℕ → List ℕ) → List (Option (List ℕ)) → ℕ → List ℕ
device_bytes contents devices d = bytes_in contents (get_or devices d None)

-- the image file
abbrev pub gathered_file : (List ℕ → List ℕ) → List (Option (List ℕ)) → Task → List ℕ
gathered_file contents devices task = image_bytes task.layout
    (gathered task.layout (device_bytes contents devices) task.set task.first)

-- the line of the report: the stripes, and the bytes that were read
abbrev pub gather_line : Task → List ℕ
gather_line task = joined (codes "stripes " ∷ decimal task.layout.stripes ∷ codes " read "
    ∷ decimal (read_bytes task) ∷ codes "\n" ∷ [])
