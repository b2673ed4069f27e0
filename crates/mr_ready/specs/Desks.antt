-- Eyes before and after they read.
use Rattle.std.specs.Prelude.{◌≡◌, ℕ, List, map}
use Rattle.mr_io.specs.Sights.{Sight, sight_with}

-- they have the duties that they had
abbrev pub KeepDuties : {E : Type 0} → (E → Sight) → List E → List E → Type 0
KeepDuties sight old now = map (λ eye. (sight eye).duty) now ≡ map (λ eye. (sight eye).duty) old

-- each took so many bytes more, and none failed
pub record HaveTaken {E : Type 0} (sight : E → Sight) (faults : E → ℕ) (n : ℕ) (old now : List E)
    : Type 0 where
  pub sights : map sight now ≡ map (λ eye. sight_with (sight eye) n) old
  pub quiet : map faults now ≡ map faults old
