-- The eyes of a rebuild, as they are lent.
use Rattle.std.specs.Prelude.{ℕ, ◌≡◌, All, Bool, List, [], ◌∷◌, None, Option, map}
use Rattle.mr_io.specs.Sights.{Sight, fresh_sight}
use Rattle.mr_ready.specs.Duties.{duties_of}

-- what the first of some eyes tells
abbrev pub told_by : {E : Type 0} → (E → Sight) → List E → Option (List ℕ)
told_by sight [] = None
told_by sight (eye ∷ eyes) = (sight eye).bytes

-- eyes as they are lent, of these duties, on one file
pub record AreLent {E : Type 0} (sight : E → Sight) (faults : E → ℕ) (told : Option (List ℕ))
    (workers : ℕ) (live : Bool) (eyes : List E) : Type 0 where
  pub sights : map sight eyes ≡ map (fresh_sight told) (duties_of workers live)
  pub no_faults : All (λ eye. faults eye ≡ 0) eyes
