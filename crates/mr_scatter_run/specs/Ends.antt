-- What the device files hold after a task is scattered, or where it stopped.
use Rattle.std.specs.Prelude.{◌≡◌, ◌≢◌, ◌⊎◌, ℕ, ◌+◌, ◌*◌, ◌<◌, ◌≤◌, IfErr, IfOk, List, OnOk, get_or, length, take, Option, None, Some, Result, Ok, Err}
use Rattle.mr_image.specs.Images.{body_bytes}
use Rattle.mr_image.specs.declared.faults.ImageKind.TheVariants.{Length}
use Rattle.mr_array_words.specs.Scatter.{ScatterAsked}
use Rattle.mr_devices.specs.Places.{part_bytes}
use Rattle.mr_devices.specs.Writing.{Shelf}
use Rattle.mr_scatter.specs.Parts.{Stores, StoresFront, device_text, whole_stripes}
use Rattle.mr_scatter.specs.declared.errors.ScatterFault.{ScatterFault}
use Rattle.mr_scatter.specs.declared.errors.ScatterFault.TheVariants.{Read as IsRead, Length as IsLength, Write as IsWrite}
use Rattle.mr_steps.specs.Faults.{fault_status}
use Rattle.mr_steps.specs.Refusals.{Gave}
use Rattle.mr_steps.specs.Steps.{IsForeseen}
use Rattle.mr_steps.specs.declared.fault.Fault.{Fault}
use Rattle.mr_steps.specs.declared.fault.Fault.TheVariants.{BadImage, ReadFault, Usage, WriteFault}
use Rattle.mr_scatter_run.specs.declared.end.End.{End}
use Rattle.mr_scatter_run.specs.Tasks.{Task, body_of, opening_all, place_of, refusal_text, end_text, scatter_answer, task_of}

-- The file of each lost device has the parts of the first stripes of this body at their places, and every other byte is
-- as its name held it; nothing else changed.
abbrev pub HasParts : List (List ℕ) → Task → List ℕ → Shelf → Option Shelf → ℕ → Type 0
HasParts names task body shelf new stripes =
    Stores (Some (opening_all names shelf)) new (λ k. place_of task)
    (λ k. device_text task.layout body (get_or task.lost k 0) stripes)

-- The same, and besides a front of the part of the next stripe.
abbrev pub HasFronts : List (List ℕ) → Task → List ℕ → Shelf → Option Shelf → ℕ → Type 0
HasFronts names task body shelf new stripes =
    StoresFront (stripes * part_bytes task.layout) (Some (opening_all names shelf)) new (λ k. place_of task)
    (λ k. device_text task.layout body (get_or task.lost k 0) (stripes + 1))

-- Scattering stopped behind so many stripes: all parts of these are written, and after a failed write a front of the next.
pub record IsStopped (names : List (List ℕ)) (task : Task) (body : List ℕ) (shelf : Shelf) (new : Option Shelf)
    (stripes : ℕ) (fault : Fault) : Type 0 where
  pub few : stripes ≤ task.layout.stripes
  pub exact : fault ≢ WriteFault → HasParts names task body shelf new stripes
  pub front : fault ≡ WriteFault → HasFronts names task body shelf new stripes

-- The files of a front of the names are open, and not of all; no byte is written.
pub record IsUnopened (names : List (List ℕ)) (shelf : Shelf) (new : Option Shelf) : Type 0 where
  pub count : ℕ
  pub within : count < length names
  pub opened : new ≡ Some (opening_all (take count names) shelf)

-- what the devices hold where the run ended so: the stripes, where they were read, and the fault
abbrev pub IsCut : List (List ℕ) → Task → List ℕ → Shelf → Option Shelf → Option ℕ → Fault → Type 0
IsCut names task body shelf new None fault = IsUnopened names shelf new
IsCut names task body shelf new (Some stripes) fault = IsStopped names task body shelf new stripes fault

-- the fault of a run for that of scattering
abbrev pub scatter_fault : ScatterFault → Fault
scatter_fault IsRead = ReadFault
scatter_fault IsLength = BadImage Length
scatter_fault IsWrite = WriteFault

-- A task was scattered, where this body was left in the source, or it was not and then this is so.
pub record Ends {X : Type 0} (names : List (List ℕ)) (task : Task) (body : List ℕ) (shelf : Shelf) (new : Option Shelf)
    (result : Result X End) : Type 0 where
  pub whole : OnOk result ((length body ≡ body_bytes task.layout) × HasParts names task body shelf new task.layout.stripes)
  pub foreseen : IfErr result (λ end. IsForeseen (fault_status end.fault) → (end.fault ≡ BadImage Length)
      × (length body ≢ body_bytes task.layout) × (end.stripes ≡ Some (whole_stripes task.layout (length body))))
  pub cut : IfErr result (λ end. IsCut names task body shelf new end.stripes end.fault)

-- The words were answered over files, a source and devices that tell this, or they were not and then this is so.
pub record Scatters {X : Type 0} (view : X → Task) (contents : List ℕ → List ℕ) (left : List ℕ) (asked : ScatterAsked) (shelf : Shelf)
    (new : Option Shelf) (result : Result X End) : Type 0 where
  pub answer : IfOk result (λ ready. (scatter_answer contents left asked).result ≡ Ok (view ready))
  pub whole : IfOk result (λ ready. HasParts asked.devices (view ready) (body_of left) shelf new (view ready).layout.stripes)
  pub refusal : IfErr result (λ end. IsForeseen (fault_status end.fault)
      → ((scatter_answer contents left asked).result ≡ Err end.fault)
      × (end_text end.stripes end.fault ≡ refusal_text contents left asked end.fault))
  pub cut : IfErr result (λ end. ((end.stripes ≡ None) × (new ≡ Some shelf))
      ⊎ Gave (task_of contents left asked).result
      (λ task. IsCut asked.devices task (body_of left) shelf new end.stripes end.fault))

-- A failed read made the count of the files or that of the source rise, and a failed write that of the devices. No count
-- falls, and an answer leaves all as they were.
pub record HasEndCauses {X : Type 0} (read_failed write_failed : Type 0) (result : Result X End) : Type 0 where
  pub read : IfErr result (λ end. end.fault ≡ ReadFault → read_failed)
  pub written : IfErr result (λ end. end.fault ≡ WriteFault → write_failed)
  pub past_words : IfErr result (λ end. end.fault ≢ Usage)
