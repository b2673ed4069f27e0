-- Steps of which the first refusal is the answer, and what it says.
use Rattle.std.specs.Prelude.{Err, None, Ok, Option, Result, Some, ℕ, ◌≡◌}
use Rattle.mr_steps.specs.Faults.{fault_status}
use Rattle.mr_steps.specs.declared.fault.Fault.{Fault}

-- what comes after a result, with nothing read on the way
abbrev pub followed_by : {X Y : Type 0} → Result X Fault → (X → Result Y Fault) → Result Y Fault
followed_by (Ok x) next = next x
followed_by (Err fault) next = Err fault

infixl 10 ◌>>=◌
-- one step after another, up to the first refusal
abbrev pub ◌>>=◌ : {X Y : Type 0} → Result X Fault → (X → Result Y Fault) → Result Y Fault
step >>= next = followed_by step next

-- the refusal, if there is one
abbrev pub refusal_of : {X : Type 0} → Result X Fault → Option Fault
refusal_of (Ok x) = None
refusal_of (Err fault) = Some fault

-- the status of a refusal, or 0
abbrev pub status_by : Option Fault → ℕ
status_by None = 0
status_by (Some fault) = fault_status fault

-- The steps gave a value, of which this holds.
pub record Gave {X : Type 0} (step : Result X Fault) (P : X → Type 0) : Type 0 where
  pub value : X
  pub is : step ≡ Ok value
  pub holds : P value
