-- What a step of the program keeps to: its definition, and the cause of a failed read.
use Rattle.std.specs.Option.{ForSome}
use Rattle.std.specs.Prelude.{Err, IsErrOf, IsOk, List, Ok, OnOk, Option, Result, Some, [], false, is_ok, option_map, ℕ, ◌≡◌, ◌≢◌, ◌≤◌, ◌⊎◌}
use Rattle.mr_io.specs.Counts.{Rose}
use Rattle.mr_io.specs.Growth.{grown}
use Rattle.mr_io.specs.Telling.{AsksFront, Told, told_asking}
use Rattle.mr_io.specs.declared.totals.Totals.{Totals}
use Rattle.mr_steps.specs.Faults.{fault_status}
use Rattle.mr_steps.specs.Readings.{Reading}
use Rattle.mr_steps.specs.declared.fault.Fault.{Fault}
use Rattle.mr_steps.specs.declared.fault.Fault.TheVariants.{ReadFault, Usage, WriteFault}

-- no status of a failed read (9), a failed write (10) or want of memory (11), which the input does
-- not foresee
abbrev pub IsForeseen : ℕ → Type 0
IsForeseen status = (status ≢ 9) × (status ≢ 10) × (status ≢ 11)

-- A result in the view of a definition: the definition's value, or where the fault is foreseen its
-- fault.
abbrev pub Gives : {X Y : Type 0} → (X → Y) → Result X Fault → Result Y Fault → Type 0
Gives view (Ok x) definition = definition ≡ Ok (view x)
Gives view (Err fault) definition = IsForeseen (fault_status fault) → definition ≡ Err fault

-- A step over told files: its result is that of the reading, and it asked for a front of the
-- reading's eyes, all of them where it gave a value.
pub record Follows {X Y : Type 0} (view : X → Y) (told : Told) (new : Option Told)
    (result : Result X Fault) (reading : Reading Y) : Type 0 where
  pub gives : Gives view result reading.result
  pub front : AsksFront told new reading.eyes
  pub whole : IsOk result → new ≡ Some (told_asking reading.eyes told)

-- a step that reads: where the files tell, it follows the definition at their contents
abbrev pub Reads : {X Y : Type 0} → (X → Y) → Option Told → Option Told → Result X Fault
    → ((List ℕ → List ℕ) → Reading Y) → Type 0
Reads view old new result definition =
    ForSome old (λ told. Follows view told new result (definition told.contents))

-- a step that takes bytes: where the files tell and it gives a value, the totals grew by what the
-- definition takes
abbrev pub Grows : {X Y : Type 0} → Option Told → Totals → Totals → Result X Fault
    → ((List ℕ → List ℕ) → Reading Y) → Type 0
Grows told old new result definition =
    OnOk result (ForSome told (λ t. new ≡ grown old (definition t.contents).taken))

-- where the files tell, they hold what they held
abbrev pub KeepsContents : Option Told → Option Told → Type 0
KeepsContents old new =
    option_map (λ told. told.contents) new ≡ option_map (λ told. told.contents) old

-- No byte behind the head of an image was read: to mend it, for replies or to be copied.
pub record IsUnread (old new : Totals) : Type 0 where
  pub mend : new.mend ≡ old.mend
  pub live : new.live ≡ old.live
  pub copy : new.copy ≡ old.copy

-- A failed read made the count of the files rise, which never falls and which an answer leaves as
-- it was, and this step writes nothing.
pub record HasReadCause {X : Type 0} (before now : ℕ) (result : Result X Fault) : Type 0 where
  pub later : before ≤ now
  pub failed : IsErrOf result ReadFault → Rose before now
  pub quiet : OnOk result (now ≡ before)
  pub no_write : IsErrOf result WriteFault → ⊥

-- The same for a step with a second count, of an eye that it was lent or of the script: the one or
-- the other rose.
pub record HasReadCauses {X : Type 0} (before now other_before other_now : ℕ)
    (result : Result X Fault) : Type 0 where
  pub later : before ≤ now
  pub other_later : other_before ≤ other_now
  pub failed : IsErrOf result ReadFault → Rose before now ⊎ Rose other_before other_now
  pub quiet : OnOk result (now ≡ before)
  pub other_quiet : OnOk result (other_now ≡ other_before)
  pub no_write : IsErrOf result WriteFault → ⊥

-- these bytes are left in the script, where it tells
abbrev pub IsLeft : Option (List ℕ) → List ℕ → Type 0
IsLeft script left = ForSome script (λ bytes. bytes ≡ left)

-- A step that reads files and the script: for some bytes, those left in the script where it tells,
-- it follows the definition, and the totals grew by what that takes.
pub record FollowsWith {X Y : Type 0} (view : X → Y) (old new : Option Told) (before now : Totals)
    (script : Option (List ℕ)) (result : Result X Fault)
    (definition : (List ℕ → List ℕ) → List ℕ → Reading Y) : Type 0 where
  pub left : List ℕ
  pub is : IsLeft script left
  pub reads : Reads view old new result (λ contents. definition contents left)
  pub grows : Grows old before now result (λ contents. definition contents left)

-- the step left the script as it was, where the files tell and this is refused
abbrev pub KeepsUnless : {S Y : Type 0} → Option Told → ((List ℕ → List ℕ) → Result Y Fault) → S → S
    → Type 0
KeepsUnless told accepted old new =
    ForSome told (λ t. is_ok (accepted t.contents) ≡ false → new ≡ old)

-- after a value nothing is left in the script, where it tells
abbrev pub EndsScript : {X : Type 0} → Option (List ℕ) → Option (List ℕ) → Result X Fault → Type 0
EndsScript old new result = OnOk result (ForSome old (λ _. new ≡ Some []))

-- a step past the reading of the words, which refuses no words
abbrev pub IsPastWords : {X : Type 0} → Result X Fault → Type 0
IsPastWords result = IsErrOf result Usage → ⊥
