-- The losses of all rotations, and the first that is not determined.
use Rattle.std.specs.Prelude.{◌≡◌, ℕ, zero, suc, ◌<◌, List, map, Option, Some, None, ⊤}
use Rattle.std.specs.List.{range_with_len}
use Rattle.mr_model.specs.Code.{Code, undetermined}
use Rattle.mr_model.specs.Rotations.{rotated}
use Rattle.mr_eq.specs.Problems.{Loss}
use Rattle.mr_plan.specs.Plans.{survivors}
use Rattle.mr_choices.specs.declared.errors.UndeterminedAt.{UndeterminedAt}
use Rattle.mr_choices.specs.declared.errors.ProblemsError.{ProblemsError}
use Rattle.mr_choices.specs.declared.errors.ProblemsError.TheVariants.{Undetermined, Memory}

-- the loss of these symbols in one rotation of a code: all others survive
abbrev pub loss_at : Code → ℕ → ℕ → Loss
loss_at m lost r = record { code = rotated m r; avail = survivors m lost; targets = lost }

-- the losses of the first n rotations
abbrev pub losses_of : Code → ℕ → ℕ → List Loss
losses_of m lost n = map (loss_at m lost) (range_with_len 0 n)

-- a symbol of a rotation, if there is one
abbrev pub at_rotation : ℕ → Option ℕ → Option UndeterminedAt
at_rotation r None = None
at_rotation r (Some t) = Some (record { rotation = r; symbol = t })

-- the first of two
abbrev pub first_of : Option UndeterminedAt → Option UndeterminedAt → Option UndeterminedAt
first_of (Some at) later = Some at
first_of None later = later

-- of the first n rotations the least in which the survivors do not determine the lost symbols, with
-- the least such symbol
unfoldable pub undetermined_at : Code → ℕ → ℕ → Option UndeterminedAt
undetermined_at m lost zero = None
undetermined_at m lost (suc n) =
    first_of (undetermined_at m lost n)
    (at_rotation n (undetermined (rotated m n) (survivors m lost) lost))

-- a fault that names it
abbrev pub IsFaultOf : Option UndeterminedAt → ProblemsError → Type 0
IsFaultOf found (Undetermined at) = found ≡ Some at
IsFaultOf found Memory = ⊤

-- a rotation below n, determined in all before it, and its least symbol that is not determined
pub record IsLeastAt (m : Code) (lost n : ℕ) (at : UndeterminedAt) : Type 0 where
  pub low : at.rotation < n
  pub symbol : undetermined (rotated m at.rotation) (survivors m lost) lost ≡ Some at.symbol
  pub before : (r : ℕ) → r < at.rotation
      → undetermined (rotated m r) (survivors m lost) lost ≡ None
