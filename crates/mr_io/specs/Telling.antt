-- What files tell: their contents by name, the eyes asked for, and the eyes lent.
use Rattle.std.specs.Prelude.{ℕ, ◌≡◌, ◌+◌, ◌-◌, ◌≤◌, List, [], ◌∷◌, ◌++◌, length, take, Option, Some}
use Rattle.mr_io.specs.declared.asked.Asked.{Asked}
use Rattle.mr_io.specs.declared.duty.Duty.{Duty}

-- A name is the list of its characters. `contents` gives no bytes for a name that is not there.
pub record Told : Type 0 where
  pub contents : List ℕ → List ℕ
  pub asked : List Asked
  pub lent : ℕ

-- What they tell after they were asked for these eyes.
abbrev pub told_asking : List Asked → Told → Told
told_asking eyes told = record told { asked = told.asked ++ eyes }

-- After an eye was asked for and lent.
abbrev pub told_giving : List ℕ → Duty → Told → Told
told_giving name duty told = record told {
  asked = told.asked ++ record { name = name; duty = duty } ∷ [];
  lent = told.lent + 1;
}

-- After these eyes were asked for, and so many lent.
abbrev pub told_lending : List Asked → ℕ → Told → Told
told_lending eyes lent told = record told { asked = told.asked ++ eyes; lent = told.lent + lent }

-- After an eye was taken back.
abbrev pub told_retiring : Told → Told
told_retiring told = record told { lent = told.lent - 1 }

-- After so many eyes were taken back.
abbrev pub told_returning : ℕ → Told → Told
told_returning count told = record told { lent = told.lent - count }

-- What was asked for besides is a front of these eyes; nothing else of what the files tell changed.
pub record AsksFront (told : Told) (new : Option Told) (eyes : List Asked) : Type 0 where
  pub count : ℕ
  pub within : count ≤ length eyes
  pub asked : new ≡ Some (told_asking (take count eyes) told)

-- A front of these eyes was asked for besides, and so many were lent; nothing else of it changed.
pub record LendsFront (told : Told) (new : Option Told) (eyes : List Asked) (lent : ℕ) : Type 0 where
  pub count : ℕ
  pub within : count ≤ length eyes
  pub asked : new ≡ Some (told_lending (take count eyes) lent told)
