-- Eyes on the device files of an array, one for each that there is.
use Rattle.std.specs.Prelude.{◌≡◌, ◌≢◌, ℕ, ◌<◌, ◌≤◌, List, [], ◌∷◌, map, option_map, Option, None, Some, length, get_or, Result, Err, IfSome, IsErrOf, OnOk}
use Rattle.std.specs.Option.{ForSome}
use Rattle.mr_io.specs.Counts.{Rose}
use Rattle.mr_io.specs.Sights.{Sight, fresh_sight}
use Rattle.mr_io.specs.Telling.{Told}
use Rattle.mr_io.specs.declared.asked.Asked.{Asked}
use Rattle.mr_io.specs.declared.duty.Duty.TheVariants.{Copy}
use Rattle.mr_steps.specs.declared.fault.Fault.{Fault}
use Rattle.mr_steps.specs.declared.fault.Fault.TheVariants.{ReadFault, WriteFault}

-- those that are there
abbrev pub present : {X : Type 0} → List (Option X) → List X
present [] = []
present (None ∷ slots) = present slots
present (Some x ∷ slots) = x ∷ present slots

-- the eyes that are asked for: one on each device file that there is
abbrev pub device_eyes : List (Option (List ℕ)) → List Asked
device_eyes devices = map (λ name. record { name = name; duty = Copy }) (present devices)

-- an eye as it is lent on the device file of this name, by files that tell this
abbrev pub fresh_on : Option Told → List ℕ → Sight
fresh_on told name = fresh_sight (option_map (λ told. told.contents name) told) Copy

-- what the eyes on these device files see as they are lent
abbrev pub fresh_slots : Option Told → List (Option (List ℕ)) → List (Option Sight)
fresh_slots told devices = map (option_map (fresh_on told)) devices

-- the device reaches to this place, where it is there and tells its bytes
abbrev pub IsLong : {E : Type 0} → (E → Sight) → ℕ → Option E → Type 0
IsLong sight end slot = IfSome slot (λ eye. IfSome (sight eye).bytes (λ bytes. end ≤ length bytes))

-- the device is there, and it ends before this place, where it tells its bytes
abbrev pub IsShort : {E : Type 0} → (E → Sight) → ℕ → Option E → Type 0
IsShort sight end None = ⊥
IsShort sight end (Some eye) = ForSome (sight eye).bytes (λ bytes. length bytes < end)

-- one of the devices is such
abbrev pub HasShort : {E : Type 0} → (E → Sight) → ℕ → List (Option E) → Type 0
HasShort sight end slots = (device : ℕ) × (device < length slots) × IsShort sight end (get_or slots device None)

-- A failed read made the count of the files rise, and a failed write that of the sink. Neither count falls, and an answer
-- leaves both as they were.
pub record HasCauses {X : Type 0} (before now out_before out_now : ℕ) (result : Result X Fault) : Type 0 where
  pub later : before ≤ now
  pub out_later : out_before ≤ out_now
  pub failed : IsErrOf result ReadFault → Rose before now
  pub written : IsErrOf result WriteFault → Rose out_before out_now
  pub quiet : OnOk result (now ≡ before)
  pub out_quiet : OnOk result (out_now ≡ out_before)

-- after a refusal that is no failed read and no failed write the sink is as it was
abbrev pub IsUntouched : {X K : Type 0} → Result X Fault → K → K → Type 0
IsUntouched result old new = (fault : Fault) → result ≡ Err fault → fault ≢ ReadFault → fault ≢ WriteFault → new ≡ old
