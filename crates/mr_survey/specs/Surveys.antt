-- The first stripe of an image whose symbols that can be read do not determine those that fail.
use Rattle.std.specs.Prelude.{◌≡◌, ℕ, zero, suc, ◌<◌, true, Option, None, Some}
use Rattle.mr_model.specs.Code.{Code, is_determined, survivors, undetermined}
use Rattle.mr_model.specs.Rotations.{rotated}
use Rattle.mr_steps.specs.Undetermined.{IsLeastUndetermined}
use Rattle.mr_cache.specs.declared.patterns.Pattern.{Pattern}
use Rattle.mr_patch.specs.Damages.{DamageParts, IsDetermined, code_at, failed_at, others_at}
use Rattle.mr_survey.specs.declared.errors.UndeterminedIn.{UndeterminedIn}

-- ---- one stripe

-- the least symbol of a stripe that fails and has no equation among the others, if there is one
abbrev pub open_at : DamageParts → ℕ → Option ℕ
open_at d s = undetermined (code_at d s) (others_at d s) (failed_at d s)

-- the same of a pattern
abbrev pub open_in : Code → Pattern → Option ℕ
open_in m p =
    undetermined (rotated m p.rotation) (survivors (rotated m p.rotation) p.lost) p.lost

-- the symbol with its stripe
abbrev pub in_stripe : ℕ → Option ℕ → Option UndeterminedIn
in_stripe s None = None
in_stripe s (Some t) = Some (record { stripe = s; symbol = t })

-- ---- all stripes

-- the first of two
abbrev pub first_of : Option UndeterminedIn → Option UndeterminedIn → Option UndeterminedIn
first_of (Some at) later = Some at
first_of None later = later

-- of the first n stripes the first that is not determined, with its least symbol that is not
unfoldable pub undetermined_in : DamageParts → ℕ → Option UndeterminedIn
undetermined_in d zero = None
undetermined_in d (suc n) = first_of (undetermined_in d n) (in_stripe n (open_at d n))

-- of all stripes
abbrev pub first_undetermined : DamageParts → Option UndeterminedIn
first_undetermined d = undetermined_in d d.layout.stripes

-- The others do not determine the symbol of this stripe, the least that is so; in each stripe before
-- it they determine all that fail.
pub record IsFirstUndetermined (d : DamageParts) (at : UndeterminedIn) : Type 0 where
  pub here : at.stripe < d.layout.stripes
  pub least : IsLeastUndetermined (code_at d at.stripe) (failed_at d at.stripe) at.symbol
  pub before : (s : ℕ) → s < at.stripe
      → is_determined (code_at d s) (others_at d s) (failed_at d s) ≡ true

-- What is found is the first stripe that is not determined, with its least symbol, and none is found
-- exactly where all are determined.
pub record FindsFirst (d : DamageParts) : Type 0 where
  pub found : (at : UndeterminedIn) → first_undetermined d ≡ Some at → IsFirstUndetermined d at
  pub only : (at : UndeterminedIn) → IsFirstUndetermined d at → first_undetermined d ≡ Some at
  pub none : first_undetermined d ≡ None → IsDetermined d
  pub determined : IsDetermined d → first_undetermined d ≡ None
