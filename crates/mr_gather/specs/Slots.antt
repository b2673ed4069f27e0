-- Eyes on the devices of an array, one for each device that is there, in the order of the devices.
use Rattle.std.specs.Prelude.{◌≡◌, ℕ, ◌*◌, ◌<◌, ◌≤◌, ◌/◌, ⊤, true, List, get_or, length, None, Option, Some, IfSome, IsSome}
use Rattle.mr_model.specs.Sets.{has}
use Rattle.mr_io.specs.Counts.{Rose}
use Rattle.mr_io.specs.Sights.{Sight, sight_with}
use Rattle.mr_image.specs.Images.{Layout}
use Rattle.mr_image.specs.Sights.{IsSameFile}

-- the eye took so many bytes, and no call of it failed; there was no device, and there is none
abbrev pub TookOf : {E : Type 0} → (E → Sight) → (E → ℕ) → ℕ → Option E → Option E → Type 0
TookOf sight faults count (Some old) (Some new) = (sight new ≡ sight_with (sight old) count) × (faults new ≡ faults old)
TookOf sight faults count None None = ⊤
TookOf sight faults count _ _ = ⊥

-- the eye is on the same file, for the same duty, and its faults did not fall
abbrev pub KeepsOf : {E : Type 0} → (E → Sight) → (E → ℕ) → Option E → Option E → Type 0
KeepsOf sight faults (Some old) (Some new) = IsSameFile (sight old) (sight new) × (faults old ≤ faults new)
KeepsOf sight faults None None = ⊤
KeepsOf sight faults _ _ = ⊥

-- a call of the eye failed
abbrev pub FailsOf : {E : Type 0} → (E → ℕ) → Option E → Option E → Type 0
FailsOf faults (Some old) (Some new) = Rose (faults old) (faults new)
FailsOf faults _ _ = ⊥

-- the same of the devices by their numbers
pub record Took {E : Type 0} (sight : E → Sight) (faults : E → ℕ) (count : ℕ → ℕ) (old new : List (Option E)) : Type 0 where
  pub same : length new ≡ length old
  pub each : (d : ℕ) → d < length old → TookOf sight faults (count d) (get_or old d None) (get_or new d None)

pub record Keeps {E : Type 0} (sight : E → Sight) (faults : E → ℕ) (old new : List (Option E)) : Type 0 where
  pub same : length new ≡ length old
  pub each : (d : ℕ) → d < length old → KeepsOf sight faults (get_or old d None) (get_or new d None)

pub record Fails {E : Type 0} (faults : E → ℕ) (old new : List (Option E)) : Type 0 where
  pub device : ℕ
  pub there : device < length old
  pub failed : FailsOf faults (get_or old device None) (get_or new device None)

-- the devices that are there have these bytes, by their numbers
abbrev pub Tells : {E : Type 0} → (E → Sight) → (ℕ → List ℕ) → List (Option E) → Type 0
Tells sight devices slots = (d : ℕ) → d < length slots → IfSome (get_or slots d None) (λ eye. (sight eye).bytes ≡ Some (devices d))

-- each device that is there has so many bytes, where they are told
abbrev pub AreLong : {E : Type 0} → (E → Sight) → ℕ → List (Option E) → Type 0
AreLong sight end slots = (d : ℕ) → d < length slots → IfSome (get_or slots d None) (λ eye. IfSome (sight eye).bytes (λ bytes. end ≤ length bytes))

-- the devices of the members are there
abbrev pub Holds : {E : Type 0} → Layout → ℕ → List (Option E) → Type 0
Holds l set slots = (i : ℕ) → has set i ≡ true → IsSome (get_or slots (i / l.symbols_per_device) None)
