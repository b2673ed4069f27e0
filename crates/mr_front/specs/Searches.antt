-- What a search finds.
use Rattle.std.specs.Prelude.{◌≡◌, ℕ, ◌<◌, ◌≤◌}
use Rattle.mr_model.specs.Code.{plain}
use Rattle.mr_model.specs.Search.{work}
use Rattle.mr_eq.specs.Problems.{Loss, search_for}
use Rattle.mr_eq.specs.Laws.{IsFirstSmallest}
use Rattle.mr_eq.specs.declared.found.Found.{Found}
use Rattle.mr_eq.specs.declared.found.Found.TheVariants.{Least, Spent}

-- the set of survivors that was found
abbrev pub set_of : Found → ℕ
set_of (Least set spent) = set
set_of (Spent set) = set

-- A least set is the first smallest of the good sets, found at the work of the loss, which is within the budget. The
-- plain set is found where that work is above the budget.
abbrev pub IsFoundWithin : Loss → ℕ → Found → Type 0
IsFoundWithin p budget (Least set spent) = IsFirstSmallest p set × (spent ≡ work (search_for p)) × (spent ≤ budget)
IsFoundWithin p budget (Spent set) = (set ≡ plain p.code p.avail p.targets) × (budget < work (search_for p))
